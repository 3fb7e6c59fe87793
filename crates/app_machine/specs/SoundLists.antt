-- What holds of the lists of the library: numbers within their tables, positions within their method.
use Rattle.std.specs.Prelude.{ℕ, ◌<◌, ◌≤◌, false, List, length, IfSome}
use Rattle.std.specs.List.{All}
use Rattle.app_machine.specs.declared.summary.Gives.{Gives}
use Rattle.app_machine.specs.declared.summary.Gives.TheVariants as gives
use Rattle.app_machine.specs.declared.summary.Summary.{Summary}
use Rattle.app_machine.specs.declared.lists.LibClass.{LibClass}
use Rattle.app_machine.specs.declared.lists.Callback.{Callback}
use Rattle.app_machine.specs.declared.lists.StaticRow.{StaticRow}
use Rattle.app_machine.specs.declared.lists.Lists.{Lists}
use Rattle.app_machine.specs.Summaries.{position_count}

-- at most 64 classes above a class, itself included
pub record SoundClass (class : LibClass) : Type 0 where
  pub one_above : 1 ≤ length class.above
  pub few_above : length class.above ≤ 64

-- each position is one of `count` arguments, and the shared object one of `shared`
abbrev pub SoundGives : ℕ → ℕ → Gives → Type 0
SoundGives count shared gives.Blank = Unit {0}
SoundGives count shared (gives.Same position) = position < count
SoundGives count shared (gives.Taken position) = position < count
SoundGives count shared (gives.Joined positions) = All (λ position. position < count) positions
SoundGives count shared (gives.Shared number) = number < shared
SoundGives count shared gives.Handed = Unit {0}

abbrev pub TwoPositions : ℕ → ℕ × ℕ → Type 0
TwoPositions count pair = (pair.0 < count) × (pair.1 < count)

-- a position, and one of so many names
abbrev pub NamedPosition : ℕ → ℕ → ℕ × ℕ → Type 0
NamedPosition count names pair = (pair.0 < count) × (pair.1 < names)

abbrev pub SoundSink : ℕ → ℕ → ℕ × List ℕ → Type 0
SoundSink count categories sink = (sink.0 < categories) × All (λ position. position < count) sink.1

-- positions are arguments of the method, the receiver among them; categories and shared objects are of the lists
pub record SoundSummary (categories shared : ℕ) (s : Summary) : Type 0 where
  pub result : SoundGives (position_count s.is_static s.proto) shared s.gives
  pub puts : All (TwoPositions (position_count s.is_static s.proto)) s.puts
  pub stores : All (NamedPosition (position_count s.is_static s.proto) shared) s.stores
  pub copies : All (TwoPositions (position_count s.is_static s.proto)) s.copies
  pub source : IfSome s.source (λ category. category < categories)
  pub sink : IfSome s.sink (SoundSink (position_count s.is_static s.proto) categories)

pub record SoundCallback (categories : ℕ) (c : Callback) : Type 0 where
  pub sources : All (NamedPosition (position_count false c.proto) categories) c.sources

pub record SoundStatic (categories : ℕ) (s : StaticRow) : Type 0 where
  pub source : IfSome s.source (λ category. category < categories)

-- 1 to 4,000,000 rows, 1 to 200 categories, at most 65,536 rows in each array, and each row sound
pub record SoundLists (lists : Lists) : Type 0 where
  pub one_row : 1 ≤ lists.rows
  pub few_rows : lists.rows ≤ 4000000
  pub one_category : 1 ≤ length lists.categories
  pub few_categories : length lists.categories ≤ 200
  pub few_classes : length lists.classes ≤ 65536
  pub few_shared : length lists.shared ≤ 65536
  pub few_methods : length lists.methods ≤ 65536
  pub few_callbacks : length lists.callbacks ≤ 65536
  pub few_statics : length lists.statics ≤ 65536
  pub classes : All SoundClass lists.classes
  pub methods : All (SoundSummary (length lists.categories) (length lists.shared)) lists.methods
  pub callbacks : All (SoundCallback (length lists.categories)) lists.callbacks
  pub statics : All (SoundStatic (length lists.categories)) lists.statics
