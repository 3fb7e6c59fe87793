-- What tables and classes are to a reader.
use Rattle.std.specs.Prelude.{ℕ, List, drop, map, slice_index}
use Rattle.dex_tables.specs.declared.dex.ClassDef.{ClassDef}
use Rattle.dex_tables.specs.declared.dex.Dex.{Dex}
use Rattle.dex_tables.specs.declared.dex.ProtoId.{ProtoId}
use Rattle.dex_tables.specs.declared.dex.FieldId.{FieldId}
use Rattle.dex_tables.specs.declared.dex.MethodRow.{MethodRow}
use Rattle.dex_writer.specs.declared.tables.Tables.{Tables}

-- the rows of protos, fields and methods, as numbers
abbrev pub proto_value : List ℕ → ProtoId
proto_value row = record { ret = slice_index row 1; params = drop 2 row }

abbrev pub field_value : List ℕ → FieldId
field_value row = record { class = slice_index row 0; kind = slice_index row 1; name = slice_index row 2 }

abbrev pub method_value : List ℕ → MethodRow
method_value row = record { class = slice_index row 0; proto = slice_index row 1; name = slice_index row 2 }

-- the tables and the classes of a file
abbrev pub dex_value : Tables → List ClassDef → Dex
dex_value t classes = record { strings = t.strings; types = t.types; protos = map proto_value t.protos; fields = map field_value t.fields; methods = map method_value t.methods; classes = classes }
