-- How a file is spelled ("Dalvik executable format": header_item, string_id_item to class_def_item).
use Rattle.std.specs.Prelude.{ℕ, ◌+◌, ◌*◌, List, [], ◌∷◌, ◌++◌, length, drop, slice_index, replicate, ◌≤◌, ◌==◌, if◌then◌else◌}
use Rattle.std.specs.List.{flat_map}
use Rattle.dex_tables.specs.declared.dex.ClassDef.{ClassDef}
use Rattle.dex_writer.specs.declared.tables.Tables.{Tables}
use Rattle.dex_writer.specs.Bytes.{u2_bytes, u4_bytes, string_item, type_list}
use Rattle.dex_writer.specs.ClassData.{class_bytes, placed_row}
use Rattle.dex_writer.specs.Placed.{pieces, placed_rows, rows_of, offsets_of, offset_of}

-- the parameters of a proto, and the row of a proto whose parameters stand at an offset
abbrev pub params_bytes : List ℕ → List ℕ
params_bytes row = type_list (drop 2 row)

unfoldable pub proto_row_bytes : ℕ → List ℕ → List ℕ
proto_row_bytes at row = u4_bytes (slice_index row 0) ++ u4_bytes (slice_index row 1) ++ u4_bytes (offset_of at (params_bytes row))

-- the row of a field: class, type, name; or of a method: class, proto, name
unfoldable pub member_row_bytes : List ℕ → List ℕ
member_row_bytes row = u2_bytes (slice_index row 0) ++ u2_bytes (slice_index row 1) ++ u4_bytes (slice_index row 2)

-- where the tables begin that have so many rows, and the data behind them
abbrev pub types_at : Tables → ℕ
types_at t = 112 + 4 * length t.strings

abbrev pub protos_at : Tables → ℕ
protos_at t = types_at t + 4 * length t.types

abbrev pub fields_at : Tables → ℕ
fields_at t = protos_at t + 12 * length t.protos

abbrev pub methods_at : Tables → ℕ
methods_at t = fields_at t + 8 * length t.fields

abbrev pub classes_at : Tables → ℕ
classes_at t = methods_at t + 8 * length t.methods

abbrev pub data_at : Tables → List ClassDef → ℕ
data_at t classes = classes_at t + 32 * length classes

-- The data from an offset on: the parameters of the protos, what the classes point to, and the strings.
unfoldable pub params_data : Tables → List ℕ
params_data t = flat_map params_bytes t.protos

unfoldable pub class_begin : ℕ → Tables → ℕ
class_begin at t = at + length (params_data t)

unfoldable pub classes_data : ℕ → Tables → List ClassDef → List ℕ
classes_data at t classes = pieces class_bytes (class_begin at t) classes

unfoldable pub strings_begin : ℕ → Tables → List ClassDef → ℕ
strings_begin at t classes = class_begin at t + length (classes_data at t classes)

unfoldable pub strings_data : Tables → List ℕ
strings_data t = flat_map string_item t.strings

unfoldable pub data_bytes : ℕ → Tables → List ClassDef → List ℕ
data_bytes at t classes = params_data t ++ classes_data at t classes ++ strings_data t

-- the tables, whose rows point into the data from that offset on
unfoldable pub string_ids : ℕ → Tables → List ClassDef → List ℕ
string_ids at t classes = flat_map u4_bytes (offsets_of string_item (strings_begin at t classes) t.strings)

unfoldable pub proto_ids : ℕ → Tables → List ℕ
proto_ids at t = rows_of proto_row_bytes params_bytes at t.protos

unfoldable pub class_defs : ℕ → Tables → List ClassDef → List ℕ
class_defs at t classes = placed_rows placed_row class_bytes (class_begin at t) classes

-- all tables, given those that point into the data
unfoldable pub tables_bytes : Tables → List ℕ → List ℕ → List ℕ → List ℕ
tables_bytes t strings protos classes = strings ++ flat_map u4_bytes t.types ++ protos ++ flat_map member_row_bytes t.fields ++ flat_map member_row_bytes t.methods ++ classes

-- the size and the offset of a section, 0 for an empty one
unfoldable pub section_bytes : ℕ → ℕ → List ℕ
section_bytes size at = u4_bytes size ++ u4_bytes (if size == 0 then 0 else at)

-- Magic, no checksum, no signature; the sizes of the file and of the header, the order of bytes, no link section, no map.
unfoldable pub header_begin : ℕ → List ℕ
header_begin file_size = (100 ∷ 101 ∷ 120 ∷ 10 ∷ 48 ∷ 51 ∷ 53 ∷ 0 ∷ []) ++ replicate 24 0 ++ u4_bytes file_size ++ u4_bytes 112 ++ u4_bytes 305419896 ++ replicate 12 0

-- where the id tables stand
unfoldable pub header_ids : Tables → List ℕ
header_ids t = section_bytes (length t.strings) 112 ++ section_bytes (length t.types) (types_at t) ++ section_bytes (length t.protos) (protos_at t)
    ++ section_bytes (length t.fields) (fields_at t) ++ section_bytes (length t.methods) (methods_at t)

-- the header of a file with so many bytes of data behind the tables
unfoldable pub header_bytes : Tables → List ClassDef → ℕ → List ℕ
header_bytes t classes size = header_begin (data_at t classes + size) ++ header_ids t ++ section_bytes (length classes) (classes_at t) ++ section_bytes size (data_at t classes)

-- a file with these tables and these classes
unfoldable pub file_bytes : Tables → List ClassDef → List ℕ
file_bytes t classes =
    header_bytes t classes (length (data_bytes (data_at t classes) t classes))
    ++ tables_bytes t (string_ids (data_at t classes) t classes) (proto_ids (data_at t classes) t) (class_defs (data_at t classes) t classes)
    ++ data_bytes (data_at t classes) t classes

-- no table has more rows than two bytes can name
pub record AreShort (t : Tables) (classes : List ClassDef) : Type 0 where
  pub strings : length t.strings ≤ 65536
  pub types : length t.types ≤ 65535
  pub protos : length t.protos ≤ 65535
  pub fields : length t.fields ≤ 65536
  pub methods : length t.methods ≤ 65536
  pub class_defs : length classes ≤ 65536
