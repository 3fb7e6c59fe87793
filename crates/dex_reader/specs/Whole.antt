-- The tests of a whole file in their order, and the value behind them.
use Rattle.std.specs.Prelude.{ℕ, List, take, Bool}
use Rattle.vet_base.specs.Script.{Script, Value, ◌>>=◌, tests, IsFirst}
use Rattle.dex_tables.specs.declared.fault.Fault.{Fault}
use Rattle.dex_tables.specs.declared.dex.Dex.{Dex}
use Rattle.dex_tables.specs.declared.dex.ClassDef.{ClassDef}
use Rattle.dex_tables.specs.declared.dex.FieldId.{FieldId}
use Rattle.dex_tables.specs.declared.dex.MethodRow.{MethodRow}
use Rattle.dex_tables.specs.declared.header.Header.{Header}
use Rattle.dex_tables.specs.declared.place.Sizes.{Sizes}
use Rattle.dex_reader.specs.declared.reading.Ids.{Ids}
use Rattle.dex_tables.specs.Parts.{table_test}
use Rattle.dex_tables.specs.Headers.{header_at}
use Rattle.dex_tables.specs.Tables.{strings_at, types_at, protos_at, fields_at, methods_at}
use Rattle.dex_reader.specs.ClassDefs.{class_rows_at}
use Rattle.dex_reader.specs.ClassData.{classes_at}

-- how many rows each table has that others index
abbrev pub sizes_of : Header → Sizes
sizes_of header = record { strings = header.strings.size; types = header.types.size; protos = header.protos.size; fields = header.fields.size; methods = header.methods.size }

-- the strings, and the string that describes each type
unfoldable pub names_at : List ℕ → Header → Sizes → Script Fault (List (List ℕ) × List ℕ)
names_at file header sizes = do
  _ ← table_test file header.strings.size header.strings.at 4
  strings ← strings_at file header.strings
  _ ← table_test file header.types.size header.types.at 4
  types ← types_at file sizes header.types
  Value (strings.0, types.0)

-- the ids of fields and of methods
unfoldable pub member_ids_at : List ℕ → Header → Sizes → Script Fault (List FieldId × List MethodRow)
member_ids_at file header sizes = do
  _ ← table_test file header.fields.size header.fields.at 8
  fields ← fields_at file sizes header.fields
  _ ← table_test file header.methods.size header.methods.at 8
  methods ← methods_at file sizes header.methods
  Value (fields.0, methods.0)

-- the five id tables, and the entries of type lists that they name
unfoldable pub ids_at : List ℕ → Header → Sizes → Script Fault Ids
ids_at file header sizes = do
  names ← names_at file header sizes
  _ ← table_test file header.protos.size header.protos.at 12
  protos ← protos_at file sizes header.protos 0
  members ← member_ids_at file header sizes
  Value (record { strings = names.0; types = names.1; protos = protos.0; fields = members.0; methods = members.1; listed = protos.1.total })

abbrev pub dex_of : Ids → List ClassDef → Dex
dex_of ids classes = record { strings = ids.strings; types = ids.types; protos = ids.protos; fields = ids.fields; methods = ids.methods; classes = classes }

-- the file that the header begins
unfoldable pub file_at : List ℕ → Header → Sizes → Script Fault Dex
file_at file header sizes = do
  ids ← ids_at file header sizes
  _ ← table_test file header.classes.size header.classes.at 32
  class_rows ← class_rows_at file sizes.types header.classes ids.listed
  classes ← classes_at file sizes class_rows.0
  Value (dex_of ids classes.0)

-- bytes behind the file's size are not there
unfoldable pub dex_at : List ℕ → Script Fault Dex
dex_at bytes = do
  header ← header_at bytes
  file_at (take header.file_size bytes) header (sizes_of header)

-- The tests of the whole file in their order.
abbrev pub tests_of : List ℕ → List (Bool × Fault)
tests_of bytes = tests (dex_at bytes)

-- the fault of the first test that does not hold
abbrev pub FirstDexFault : List ℕ → Fault → Type 0
FirstDexFault bytes fault = IsFirst (tests_of bytes) fault
