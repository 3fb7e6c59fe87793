-- Of which types the items of an array have to be.
use Rattle.std.specs.Prelude.{◌&&◌, Bool, true, false, List, [], ◌∷◌, Option, Some, None}
use Rattle.std.specs.List.{list_all}
use Rattle.toml.specs.Data.{Data, string, integer, table}
use Rattle.form_fields.specs.declared.shape.Shape.{Shape}
use Rattle.form_fields.specs.declared.shape.Shape.TheVariants as shape
use Rattle.form_fields.specs.Tree.{items_in}

unfoldable pub is_table : Data → Bool
is_table (table ms) = true
is_table _ = false

unfoldable pub is_number : Data → Bool
is_number (integer z) = true
is_number _ = false

unfoldable pub is_text : Data → Bool
is_text (string text) = true
is_text _ = false

unfoldable pub are_numbers : List Data → Bool
are_numbers ds = list_all (λ d. is_number d) ds

unfoldable pub are_texts : List Data → Bool
are_texts ds = list_all (λ d. is_text d) ds

-- a list of numbers: what stands behind the second of a pair has the second's type, and its length is another matter
abbrev pub numbers_in : Option (List Data) → Bool
numbers_in None = false
numbers_in (Some items) = are_numbers items

unfoldable pub is_number_pair : Data → Bool
is_number_pair d = numbers_in (items_in d)

-- the first item is a number, where there is one, and each behind it is a text
unfoldable pub number_and_texts : List Data → Bool
number_and_texts [] = true
number_and_texts (first ∷ others) = is_number first && are_texts others

abbrev pub number_and_texts_in : Option (List Data) → Bool
number_and_texts_in None = false
number_and_texts_in (Some items) = number_and_texts items

unfoldable pub is_named_pair : Data → Bool
is_named_pair d = number_and_texts_in (items_in d)

unfoldable pub has_shape : Shape → Data → Bool
has_shape shape.Table d = is_table d
has_shape shape.Number d = is_number d
has_shape shape.NumberPair d = is_number_pair d
has_shape shape.NamedPair d = is_named_pair d

unfoldable pub all_have : Shape → List Data → Bool
all_have s ds = list_all (has_shape s) ds
