-- The class definitions (Android documentation, "Dalvik executable format", class_def_item).
use Rattle.std.specs.Prelude.{ℕ, ◌==◌, ◌||◌, List, Option, Some, None, nat_lt, if◌then◌else◌}
use Rattle.vet_base.specs.Script.{Script, Value, ◌>>=◌, test, rows}
use Rattle.dex_tables.specs.declared.fault.Fault.{Fault}
use Rattle.dex_tables.specs.declared.fault.Fault.TheVariants.{Index, TooMany}
use Rattle.dex_tables.specs.declared.fault.Limit.TheVariants as limits
use Rattle.dex_tables.specs.declared.fault.Table.TheVariants.{ClassDefs}
use Rattle.dex_tables.specs.declared.header.Section.{Section}
use Rattle.dex_reader.specs.declared.class_defs.ClassRow.{ClassRow}
use Rattle.dex_tables.specs.declared.place.Place.{Place}
use Rattle.dex_tables.specs.Parts.{u4_at, index_test}
use Rattle.dex_tables.specs.TypeLists.{place, type_list_at}

-- no superclass is written as the greatest number
unfoldable pub superclass_of : ℕ → Option ℕ
superclass_of index = if index == 4294967295 then None else Some index

unfoldable pub superclass_at : List ℕ → ℕ → ℕ → ℕ → ℕ → Script Fault (Option ℕ × ℕ)
superclass_at file types table row at = do
  superclass ← u4_at file at table
  _ ← test (superclass.0 == 4294967295 || nat_lt superclass.0 types) (Index ClassDefs row)
  Value (superclass_of superclass.0, superclass.1)

-- Source file, annotations and static values, which are not looked at, and the offset of the class data.
unfoldable pub data_offset_at : List ℕ → ℕ → ℕ → Script Fault (ℕ × ℕ)
data_offset_at file table at = do
  source ← u4_at file at table
  annotations ← u4_at file source.1 table
  class_data ← u4_at file annotations.1 table
  statics ← u4_at file class_data.1 table
  Value (class_data.0, statics.1)

abbrev pub class_row_of : ℕ → ℕ → ℕ → Option ℕ → List ℕ → ℕ → ClassRow
class_row_of row class flags superclass interfaces class_data = record { row = row; class = class; flags = flags; superclass = superclass; interfaces = interfaces; class_data = class_data }

-- A row: class, flags, superclass, interfaces, source file, annotations, class data and static values.
unfoldable pub class_row : List ℕ → ℕ → ℕ → ℕ → Place → Script Fault (ClassRow × Place)
class_row file types table row s = do
  class ← u4_at file s.at table
  _ ← index_test class.0 types ClassDefs row
  flags ← u4_at file class.1 table
  superclass ← superclass_at file types table row flags.1
  list ← u4_at file superclass.1 table
  interfaces ← type_list_at file types ClassDefs row list.0 s.total
  _ ← test (nat_lt row 65536) (TooMany limits.ClassDefs)
  class_data ← data_offset_at file table list.1
  Value (class_row_of row class.0 flags.0 superclass.0 interfaces.0 class_data.0, place class_data.1 interfaces.1)

unfoldable pub class_rows_at : List ℕ → ℕ → Section → ℕ → Script Fault (List ClassRow × Place)
class_rows_at file types table total = rows table.size 0 (class_row file types table.at) (place table.at total)
