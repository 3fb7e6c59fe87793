-- Types by number, and which of them a row of bits has.
use Rattle.std.specs.Prelude.{◌≡◌, ◌<◌, ◌≤◌, ◌||◌, ◌/◌, ◌+◌, ℕ, Bool, false, List, Some, length}
use Rattle.std.specs.HashMap.{get}
use Rattle.app_machine.specs.Names.{Name, object_class}
use Rattle.app_model.specs.Marks.{is_marked}
use Rattle.event_index.specs.contracts.keys.NameKeyPartialEq.TheImpl.{ghosts as key_eq}
use Rattle.event_index.specs.declared.keys.NameKey.{NameKey}
use Rattle.event_index.specs.declared.kinds.Column.{Column}
use Rattle.event_index.specs.declared.kinds.Column.TheVariants as column
use Rattle.event_index.specs.declared.kinds.Kinds.{Kinds}

-- the type of the key has the number
abbrev pub has_number : Kinds → NameKey → ℕ → Type 0
has_number kinds q k = get key_eq.eq kinds.numbers q ≡ Some k

-- each number is below the count and that of one type, and `Object` has none
pub record AreKinds (kinds : Kinds) : Type 0 where
  pub few : kinds.count ≤ 16384
  pub below : (q : NameKey) (k : ℕ) → has_number kinds q k → k < kinds.count
  pub apart : (q r : NameKey) (k : ℕ) → has_number kinds q k → has_number kinds r k → q.name.now ≡ r.name.now
  pub no_object : (q : NameKey) (k : ℕ) → has_number kinds q k → q.name.now ≡ object_class → ⊥

-- how many words a row has
abbrev pub word_count : ℕ → ℕ
word_count count = count / 64 + 1

abbrev pub nothing : Name → Bool
nothing type = false

-- of the types that have numbers the row has just those of which the test says yes
pub record HasKinds (kinds : Kinds) (row : List ℕ) (test : Name → Bool) : Type 0 where
  pub long : length row ≡ word_count kinds.count
  pub at : (q : NameKey) (k : ℕ) → has_number kinds q k → is_marked row k ≡ test q.name.now

-- just those come to the row
pub record Adds (kinds : Kinds) (old new : List ℕ) (test : Name → Bool) : Type 0 where
  pub long : length new ≡ length old
  pub at : (q : NameKey) (k : ℕ) → has_number kinds q k → is_marked new k ≡ (is_marked old k || test q.name.now)

-- the type has the number
pub record IsNumberOf (kinds : Kinds) (type : Name) (k : ℕ) : Type 0 where
  pub key : NameKey
  pub name : key.name.now ≡ type
  pub has : has_number kinds key k

-- the type is asked for so
abbrev pub IsColumn : Kinds → Name → Column → Type 0
IsColumn kinds type column.Object = type ≡ object_class
IsColumn kinds type (column.Number k) = IsNumberOf kinds type k
IsColumn kinds type column.Unknown = Unit {0}
