-- A few rules over a few rows, and which lines are stories by them. Behind each fact stands what a slip would answer.
use Rattle.std.specs.Prelude.{◌≡◌, ℕ, List, [], ◌∷◌}
use Rattle.fact_rows.specs.declared.row.Row.{Row}
use Rattle.fact_rows.specs.declared.row.Row.TheVariants.{Live}
use Rattle.flow_story.specs.declared.checking.StoryFault.TheVariants.{Empty, BadLine}
use Rattle.flow_story.specs.declared.line.Numbers.{Numbers}
use Rattle.flow_story.specs.declared.line.Numbers.TheVariants.{None, One, Two, Three}
use Rattle.flow_story.specs.declared.line.StoryLine.{StoryLine}
use Rattle.flow_story.specs.Stories.{IsFirstFault, IsStory, TellsOf}

-- four rows
abbrev pub start : Row
start = Live 0 0

abbrev pub other : Row
other = Live 0 1

abbrev pub aside : Row
aside = Live 1 0

abbrev pub last : Row
last = Live 1 1

abbrev pub Begins : Row → Type 0
Begins row = row ≡ start

-- one row follows from the start, one besides, and the last from the first two, in this order
pub data Follows : ℕ → List Row → Row → Type 0 where
  moves : Follows 3 (start ∷ []) other
  turns : Follows 4 (start ∷ []) aside
  joins : Follows 8 (start ∷ other ∷ []) last

abbrev pub line : ℕ → Numbers → Row → StoryLine
line rule premises row = record { rule = rule; premises = premises; row = row }

abbrev pub begin : StoryLine
begin = line 0 None start

abbrev pub moved : StoryLine
moved = line 3 (One 1) other

abbrev pub Faulty : List StoryLine → ℕ → Type 0
Faulty lines n = IsFirstFault Follows Begins lines (BadLine n)

pub record StoriesTell : Type 0 where
  -- three lines tell the last row
  pub tells : TellsOf Follows Begins last (begin ∷ moved ∷ line 8 (Two 1 2) last ∷ [])
  -- no lines are empty
  pub empty : IsFirstFault Follows Begins [] Empty
  -- a row that is no start is not told as one (else rule 0 gives every row)
  pub no_start : Faulty (line 0 None other ∷ []) 1
  -- nothing gives the row by that rule, or by one that there is not (else the row alone is looked at, or no rule is)
  pub not_given : Faulty (begin ∷ line 3 (One 1) last ∷ []) 2
  pub other_rule : Faulty (begin ∷ line 4 (One 1) other ∷ []) 2
  pub no_rule : Faulty (begin ∷ line 255 (One 1) other ∷ []) 2
  -- a line does not follow from itself, from a later one, or from none (else any row of the story serves)
  pub itself : Faulty (begin ∷ line 3 (One 2) other ∷ []) 2
  pub later : Faulty (begin ∷ line 8 (Two 1 3) last ∷ moved ∷ []) 2
  pub before_all : Faulty (begin ∷ line 3 (One 0) other ∷ []) 2
  pub beyond_all : Faulty (begin ∷ line 3 (One 4294967295) other ∷ []) 2
  -- a start has no premises (else rule 0 may have them)
  pub premised : Faulty (begin ∷ line 0 (One 1) start ∷ []) 2
  -- premises stand in the order of the rule, and are no more (else any order serves, or what is too many is passed
  -- over)
  pub ordered : Faulty (begin ∷ moved ∷ line 8 (Two 2 1) last ∷ []) 3
  pub one_more : Faulty (begin ∷ moved ∷ line 8 (Three 1 2 1) last ∷ []) 3
  -- the last line counts (else it is left unchecked)
  pub to_the_end : IsStory Follows Begins (begin ∷ line 3 (One 1) last ∷ []) → ⊥
  -- a line that no later one uses is one too many (else it is copied)
  pub unused : TellsOf Follows Begins last (begin ∷ moved ∷ line 4 (One 1) aside ∷ line 8 (Two 1 2) last ∷ []) → ⊥
  -- and so is a row that stands twice
  pub twice : TellsOf Follows Begins other (begin ∷ begin ∷ line 3 (One 2) other ∷ []) → ⊥
