-- When TOML reads a text to a tree. In a tree the keys of a table stand by their bytes, ascending, and the tables of an array as
-- in the text.
use Rattle.std.specs.Prelude.{◌≡◌, ℕ, List, [], ◌∷◌, Option, Some, None, ◌⊎◌, IsUtf8}
use Rattle.toml.specs.Data.{Data, array, Members, Items, no_items, item}
use Rattle.toml.specs.Parse.{parse_document}

-- the text is UTF-8, and TOML reads it as this tree
abbrev pub Reads : List ℕ → Members → Type 0
Reads text tree = IsUtf8 text × (parse_document text ≡ Some tree)

-- no tree is read from the text
abbrev pub IsNotToml : List ℕ → Type 0
IsNotToml text = ¬ (IsUtf8 text) ⊎ (parse_document text ≡ None)

-- the items of an array, in its order
abbrev pub listed : Items → List Data
listed no_items = []
listed (item d ds) = d ∷ listed ds

-- the items of a value, where it is an array
unfoldable pub items_in : Data → Option (List Data)
items_in (array ds) = Some (listed ds)
items_in _ = None
