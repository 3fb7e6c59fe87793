-- Stories: lines, each a start or given by a rule from the rows of lines before it.
use Rattle.std.specs.Prelude.{◌≡◌, ◌≢◌, ◌<◌, ◌++◌, ℕ, zero, suc, List, [], ◌∷◌, map, take, length, Option, Some, None, option_map}
use Rattle.std.specs.List.{slice_get}
use Rattle.vet_base.specs.Members.{In, IsAt}
use Rattle.vet_base.specs.Apart.{Apart}
use Rattle.fact_rows.specs.declared.row.Row.{Row}
use Rattle.flow_rules.specs.Deriving.{DerivableBy}
use Rattle.flow_story.specs.declared.line.Numbers.{Numbers}
use Rattle.flow_story.specs.declared.line.Numbers.TheVariants as numbers
use Rattle.flow_story.specs.declared.line.StoryLine.{StoryLine}
use Rattle.flow_story.specs.declared.checking.StoryFault.{StoryFault}
use Rattle.flow_story.specs.declared.checking.StoryFault.TheVariants.{Empty, BadLine}

-- the numbers of the lines that are named, in their order
abbrev pub listed : Numbers → List ℕ
listed numbers.None = []
listed (numbers.One a) = a ∷ []
listed (numbers.Two a b) = a ∷ b ∷ []
listed (numbers.Three a b c) = a ∷ b ∷ c ∷ []
listed (numbers.Four a b c d) = a ∷ b ∷ c ∷ d ∷ []

-- the row of the line of this number, the first being 1
abbrev pub row_of : List StoryLine → ℕ → Option Row
row_of lines zero = None
row_of lines (suc place) = option_map (λ (line : StoryLine). line.row) (slice_get lines place)

-- these are the rows of the lines of these numbers, in their order
abbrev pub AreRows : List StoryLine → List ℕ → List Row → Type 0
AreRows lines ns rows = map (row_of lines) ns ≡ map Some rows

module _ (Rule : ℕ → List Row → Row → Type 0) (Start : Row → Type 0) where
  -- A line is right behind others: it is a start with rule 0 and no premises, or its row follows by its rule from one to four of theirs.
  pub data IsRight (before : List StoryLine) : StoryLine → Type 0 where
    a_start : {row : Row} →
        Start row →
        IsRight before (record { rule = 0; premises = numbers.None; row = row })
    by_rule : {line : StoryLine} (rows : List Row) →
        AreRows before (listed line.premises) rows →
        rows ≢ [] →
        Rule line.rule rows line.row →
        IsRight before line

  -- the line at the place is right behind those before it
  abbrev pub IsRightAt : List StoryLine → ℕ → Type 0
  IsRightAt lines place = (line : StoryLine) → IsAt lines place line → IsRight (take place lines) line

  -- the line at each place before the end is
  abbrev pub AreRight : ℕ → List StoryLine → Type 0
  AreRight end lines = (place : ℕ) → place < end → IsRightAt lines place

  -- there is a line, and each is right
  pub record IsStory (lines : List StoryLine) : Type 0 where
    pub some : lines ≢ []
    pub right : AreRight (length lines) lines

  -- the line of this number is the first that is not right
  pub record IsFirstBad (lines : List StoryLine) (number : ℕ) : Type 0 where
    pub place : ℕ
    pub counted : number ≡ suc place
    pub line : StoryLine
    pub there : IsAt lines place line
    pub wrong : IsRight (take place lines) line → ⊥
    pub before : AreRight place lines

  abbrev pub IsFirstFault : List StoryLine → StoryFault → Type 0
  IsFirstFault lines Empty = lines ≡ []
  IsFirstFault lines (BadLine number) = IsFirstBad lines number

-- the last line has the row
pub record EndsIn (row : Row) (lines : List StoryLine) : Type 0 where
  pub front : List StoryLine
  pub last : StoryLine
  pub is : lines ≡ front ++ last ∷ []
  pub tells : last.row ≡ row

-- the line at the place is a premise of a later one
pub record IsUsed (lines : List StoryLine) (place : ℕ) : Type 0 where
  pub later : ℕ
  pub behind : place < later
  pub line : StoryLine
  pub there : IsAt lines later line
  pub names : In (suc place) (listed line.premises)

module _ (Rule : ℕ → List Row → Row → Type 0) (Start : Row → Type 0) where
  -- A story of the row without a line too many: no row stands twice, and each line but the last is a premise of a later one.
  pub record TellsOf (row : Row) (lines : List StoryLine) : Type 0 where
    pub story : IsStory Rule Start lines
    pub ends : EndsIn row lines
    pub apart : Apart (map (λ (line : StoryLine). line.row) lines)
    pub used : (place : ℕ) → suc place < length lines → IsUsed lines place

  -- a story ends in the row
  pub record HasStory (row : Row) : Type 0 where
    pub lines : List StoryLine
    pub story : IsStory Rule Start lines
    pub ends : EndsIn row lines

  -- what a story tells is derivable
  abbrev pub IsTold : Type 0
  IsTold = (lines : List StoryLine) (row : Row) → IsStory Rule Start lines → EndsIn row lines → DerivableBy Rule Start row

  -- what is derivable has a story
  abbrev pub IsTellable : Type 0
  IsTellable = (row : Row) → DerivableBy Rule Start row → HasStory row
