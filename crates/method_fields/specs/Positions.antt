-- Lists of positions, of pairs of positions, and of a position with a name. Positions count arguments, a wide one once, the
-- receiver being 0.
use Rattle.std.specs.Prelude.{ℕ, pos, ◌&&◌, ◌==◌, nat_lt, Bool, false, List, [], length, Option, Some, None, is_some, slice_get}
use Rattle.toml.specs.Data.{Data, string, integer, boolean, Members}
use Rattle.vet_base.specs.Script.{Script, Value, Test, ◌>>=◌, test, walk}
use Rattle.app_machine.specs.Names.{Name, same_name}
use Rattle.form_fields.specs.declared.fault.Fault.{Fault}
use Rattle.form_fields.specs.declared.fault.Fault.TheVariants.{Wrong, Range}
use Rattle.form_fields.specs.declared.words.Section.{Section}
use Rattle.form_fields.specs.declared.words.Key.{Key}
use Rattle.form_fields.specs.declared.shape.Shape.{Shape}
use Rattle.form_fields.specs.declared.shape.Shape.TheVariants as shape
use Rattle.form_fields.specs.Tree.{items_in}
use Rattle.form_fields.specs.Shape.{all_have}
use Rattle.form_fields.specs.Places.{place_of}
use Rattle.form_fields.specs.Fields.{at_key}

-- the key is there
unfoldable pub has_key : Key → Members → Bool
has_key k t = is_some (at_key k t)

-- a word of yes or no, and no where it is missing
abbrev pub flag_in : Section → Key → Option Data → Script Fault Bool
flag_in s k None = Value false
flag_in s k (Some (boolean b)) = Value b
flag_in s k (Some _) = Test false (Wrong s k) (Value false)

unfoldable pub flag_at : Section → Key → Members → Script Fault Bool
flag_at s k t = flag_in s k (at_key k t)

-- a position: below the number of arguments
abbrev pub position_in : Section → Key → ℕ → Data → Script Fault ℕ
position_in s k count (integer (pos n)) = Test (nat_lt n 4294967296 && nat_lt n count) (Range s k) (Value n)
position_in s k count _ = Test false (Range s k) (Value 0)

unfoldable pub position_of : Section → Key → ℕ → Data → Script Fault ℕ
position_of s k count d = position_in s k count d

abbrev pub position_due : Section → Key → ℕ → Option Data → Script Fault ℕ
position_due s k count None = Test false (Range s k) (Value 0)
position_due s k count (Some d) = position_of s k count d

-- the position that stands at a place of a list
unfoldable pub position_at : Section → Key → ℕ → List Data → ℕ → Script Fault ℕ
position_at s k count items i = position_due s k count (slice_get items i)

-- a list of items of a shape, none where it is missing
abbrev pub items_among : Section → Key → Shape → Option (List Data) → Script Fault (List Data)
items_among s k shape None = Test false (Wrong s k) (Value [])
items_among s k shape (Some items) = Test (all_have shape items) (Wrong s k) (Value items)

abbrev pub items_free : Section → Key → Shape → Option Data → Script Fault (List Data)
items_free s k shape None = Value []
items_free s k shape (Some d) = items_among s k shape (items_in d)

unfoldable pub items_at : Section → Key → Shape → Members → Script Fault (List Data)
items_at s k shape t = items_free s k shape (at_key k t)

-- a list of positions
unfoldable pub position_row : Section → Key → ℕ → Data → Unit {0} → Script Fault (ℕ × Unit {0})
position_row s k count d _ = do
  n ← position_of s k count d
  Value (n, tt)

unfoldable pub position_rows : Section → Key → ℕ → List Data → Script Fault (List ℕ × Unit {0})
position_rows s k count ds = walk (position_row s k count) ds tt

unfoldable pub positions_at : Section → Key → ℕ → Members → Script Fault (List ℕ)
positions_at s k count t = do
  items ← items_at s k shape.Number t
  positions ← position_rows s k count items
  Value positions.0

-- the list is a pair
unfoldable pub are_two : List Data → Bool
are_two items = length items == 2

-- a list of pairs of positions
abbrev pub pair_in : Section → Key → ℕ → Option (List Data) → Script Fault ((ℕ × ℕ) × Unit {0})
pair_in s k count None = Test false (Range s k) (Value ((0, 0), tt))
pair_in s k count (Some items) = do
  _ ← test (are_two items) (Range s k)
  i ← position_at s k count items 0
  j ← position_at s k count items 1
  Value ((i, j), tt)

unfoldable pub pair_row : Section → Key → ℕ → Data → Unit {0} → Script Fault ((ℕ × ℕ) × Unit {0})
pair_row s k count d _ = pair_in s k count (items_in d)

unfoldable pub pair_rows : Section → Key → ℕ → List Data → Script Fault (List (ℕ × ℕ) × Unit {0})
pair_rows s k count ds = walk (pair_row s k count) ds tt

unfoldable pub pairs_at : Section → Key → ℕ → Members → Script Fault (List (ℕ × ℕ))
pairs_at s k count t = do
  items ← items_at s k shape.NumberPair t
  pairs ← pair_rows s k count items
  Value pairs.0

-- a name of a list, by its number
abbrev pub number_named : Section → Key → Option ℕ → Script Fault ℕ
number_named s k None = Test false (Range s k) (Value 0)
number_named s k (Some n) = Value n

abbrev pub name_in : Section → Key → List Name → Option Data → Script Fault ℕ
name_in s k names (Some (string text)) = number_named s k (place_of same_name text names)
name_in s k names _ = Test false (Range s k) (Value 0)

unfoldable pub name_at : Section → Key → List Name → List Data → ℕ → Script Fault ℕ
name_at s k names items i = name_in s k names (slice_get items i)

-- a list of pairs of a position and a name of a list
abbrev pub named_in : Section → Key → ℕ → List Name → Option (List Data) → Script Fault ((ℕ × ℕ) × Unit {0})
named_in s k count names None = Test false (Range s k) (Value ((0, 0), tt))
named_in s k count names (Some items) = do
  _ ← test (are_two items) (Range s k)
  i ← position_at s k count items 0
  n ← name_at s k names items 1
  Value ((i, n), tt)

unfoldable pub named_row : Section → Key → ℕ → List Name → Data → Unit {0} → Script Fault ((ℕ × ℕ) × Unit {0})
named_row s k count names d _ = named_in s k count names (items_in d)

unfoldable pub named_rows : Section → Key → ℕ → List Name → List Data → Script Fault (List (ℕ × ℕ) × Unit {0})
named_rows s k count names ds = walk (named_row s k count names) ds tt

unfoldable pub named_at : Section → Key → ℕ → List Name → Members → Script Fault (List (ℕ × ℕ))
named_at s k count names t = do
  items ← items_at s k shape.NamedPair t
  pairs ← named_rows s k count names items
  Value pairs.0

-- a name of a list that may be missing
abbrev pub number_free : Section → Key → Option ℕ → Script Fault (Option ℕ)
number_free s k None = Test false (Range s k) (Value None)
number_free s k (Some n) = Value (Some n)

abbrev pub listed_free : Section → Key → List Name → Option Data → Script Fault (Option ℕ)
listed_free s k names None = Value None
listed_free s k names (Some (string text)) = number_free s k (place_of same_name text names)
listed_free s k names (Some _) = Test false (Wrong s k) (Value None)

unfoldable pub listed_at : Section → Key → List Name → Members → Script Fault (Option ℕ)
listed_at s k names t = listed_free s k names (at_key k t)
