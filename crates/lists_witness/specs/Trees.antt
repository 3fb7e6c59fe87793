-- Trees of TOML, written as lists. In a table the keys stand by their bytes.
use Rattle.std.specs.Prelude.{List, [], ◌∷◌}
use Rattle.toml.specs.Data.{Data, table, array, Items, item, no_items, Members, member, no_members}
use Rattle.app_machine.specs.Names.{Name}

abbrev pub members : List (Name × Data) → Members
members [] = no_members
members (m ∷ others) = member m.0 m.1 (members others)

abbrev pub table_of : List (Name × Data) → Data
table_of ms = table (members ms)

abbrev pub items : List Data → Items
items [] = no_items
items (d ∷ others) = item d (items others)

abbrev pub array_of : List Data → Data
array_of ds = array (items ds)
