-- The lines on which a line rests.
use Rattle.std.specs.Prelude.{◌≡◌, ◌↔◌, ◌⊎◌, ◌<◌, ◌≤◌, ◌++◌, ℕ, zero, suc, List, [], ◌∷◌, length, Option, Some, None}
use Rattle.std.specs.List.{slice_get}
use Rattle.std.specs.Ordering.{nat_cmp}
use Rattle.vet_base.specs.Ascending.{Ascends}
use Rattle.vet_base.specs.Members.{In}
use Rattle.flow_story.specs.declared.line.StoryLine.{StoryLine}
use Rattle.flow_story.specs.Stories.{listed}

-- some numbers came to others
pub record HasMore (more old new : List ℕ) : Type 0 where
  pub each : (n : ℕ) → In n new ↔ (In n more ⊎ In n old)

-- the number was there and is above all others
pub record IsGreatest (old new : List ℕ) (n : ℕ) : Type 0 where
  pub is : old ≡ new ++ n ∷ []
  pub below : (m : ℕ) → In m new → m < n

-- the line of a number, the first being 1, and the numbers of its premises
abbrev pub line_named : List StoryLine → ℕ → Option StoryLine
line_named lines zero = None
line_named lines (suc place) = slice_get lines place

abbrev pub premises_by : Option StoryLine → List ℕ
premises_by None = []
premises_by (Some line) = listed line.premises

abbrev pub premises_of : List StoryLine → ℕ → List ℕ
premises_of lines n = premises_by (line_named lines n)

-- premises stand before what follows from them
pub record AreBefore (lines : List StoryLine) : Type 0 where
  pub each : (n premise : ℕ) → In premise (premises_of lines n) → (0 < premise) × (premise < n)

-- one of the numbers is that of a line of which n is a premise
pub record IsPremise (lines : List StoryLine) (numbers : List ℕ) (n : ℕ) : Type 0 where
  pub of : ℕ
  pub there : In of numbers
  pub names : In n (premises_of lines of)

-- The numbers of the lines on which the last rests, and its own: with each line its premises, and but for the last each is a premise.
pub record AreNeeded (lines : List StoryLine) (goal : ℕ) (numbers : List ℕ) : Type 0 where
  pub front : List ℕ
  pub ends : numbers ≡ front ++ goal ∷ []
  pub ascend : Ascends nat_cmp numbers
  pub within : (n : ℕ) → In n numbers → (0 < n) × (n ≤ length lines)
  pub closed : (n premise : ℕ) → In n numbers → In premise (premises_of lines n) → In premise numbers
  pub used : (n : ℕ) → In n numbers → (n ≡ goal) ⊎ IsPremise lines numbers n
