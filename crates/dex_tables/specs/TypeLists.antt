-- Lists of types (Android documentation, "Dalvik executable format", type_list).
use Rattle.std.specs.Prelude.{ℕ, ◌+◌, ◌*◌, ◌==◌, List, [], length, nat_lt, nat_le, if◌then◌else◌}
use Rattle.vet_base.specs.Script.{Script, Value, ◌>>=◌, test, repeat}
use Rattle.dex_tables.specs.declared.fault.Fault.{Fault}
use Rattle.dex_tables.specs.declared.fault.Fault.TheVariants.{Outside, TooMany}
use Rattle.dex_tables.specs.declared.fault.Limit.TheVariants.{TypeLists}
use Rattle.dex_tables.specs.declared.fault.Table.{Table}
use Rattle.dex_tables.specs.declared.place.Place.{Place}
use Rattle.dex_tables.specs.Parts.{u2_at, u4_at, index_test}

-- where the next item stands, and the running total behind it
abbrev pub place : ℕ → ℕ → Place
place at total = record { at = at; total = total }

-- the list at this offset; a bad index is told by the row that names the list
unfoldable pub entry_row : List ℕ → ℕ → Table → ℕ → ℕ → Place → Script Fault (ℕ × Place)
entry_row file types table row list s = do
  index ← u2_at file s.at list
  _ ← index_test index.0 types table row
  _ ← test (nat_lt s.total 4000000) (TooMany TypeLists)
  Value (index.0, place index.1 (s.total + 1))

unfoldable pub entries_at : List ℕ → ℕ → Table → ℕ → ℕ → ℕ → Place → Script Fault (List ℕ × Place)
entries_at file types table row list size s = repeat size (entry_row file types table row list) s

unfoldable pub listed_at : List ℕ → ℕ → Table → ℕ → ℕ → ℕ → Script Fault (List ℕ × ℕ)
listed_at file types table row list total = do
  size ← u4_at file list list
  _ ← test (nat_le (size.1 + 2 * size.0) (length file)) (Outside list)
  entries ← entries_at file types table row list size.0 (place size.1 total)
  Value (entries.0, entries.1.total)

-- offset 0 stands for the list of nothing
unfoldable pub type_list_at : List ℕ → ℕ → Table → ℕ → ℕ → ℕ → Script Fault (List ℕ × ℕ)
type_list_at file types table row list total = if list == 0 then Value ([], total) else listed_at file types table row list total
