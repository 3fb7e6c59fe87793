-- The id tables and their rows (Android documentation, "Dalvik executable format", string_id_item, string_data_item,
-- type_id_item, proto_id_item, field_id_item and method_id_item).
use Rattle.std.specs.Prelude.{ℕ, ◌+◌, List, length, nat_le}
use Rattle.vet_base.specs.Script.{Script, Value, ◌>>=◌, test, rows, repeat}
use Rattle.dex_tables.specs.declared.fault.Fault.{Fault}
use Rattle.dex_tables.specs.declared.fault.Fault.TheVariants.{TooMany}
use Rattle.dex_tables.specs.declared.fault.Limit.TheVariants.{Names}
use Rattle.dex_tables.specs.declared.fault.Table.TheVariants.{TypeIds, ProtoIds, FieldIds, MethodIds}
use Rattle.dex_tables.specs.declared.dex.ProtoId.{ProtoId}
use Rattle.dex_tables.specs.declared.dex.FieldId.{FieldId}
use Rattle.dex_tables.specs.declared.dex.MethodRow.{MethodRow}
use Rattle.dex_tables.specs.declared.header.Section.{Section}
use Rattle.dex_tables.specs.declared.place.Place.{Place}
use Rattle.dex_tables.specs.declared.place.Sizes.{Sizes}
use Rattle.dex_tables.specs.Parts.{u2_at, u4_at, uleb_at, text_at, index_test}
use Rattle.dex_tables.specs.TypeLists.{place, type_list_at}

-- A string id: the offset of a length, which is not looked at, of bytes and of a 0.
unfoldable pub string_row : List ℕ → ℕ → Place → Script Fault (List ℕ × Place)
string_row file table s = do
  offset ← u4_at file s.at table
  length_of ← uleb_at file offset.0
  name ← text_at file length_of.1
  _ ← test (nat_le (s.total + length name) 33554432) (TooMany Names)
  Value (name, place offset.1 (s.total + length name))

unfoldable pub strings_at : List ℕ → Section → Script Fault (List (List ℕ) × Place)
strings_at file table = repeat table.size (string_row file table.at) (place table.at 0)

-- A type id: the index of a string.
unfoldable pub type_row : List ℕ → Sizes → ℕ → ℕ → ℕ → Script Fault (ℕ × ℕ)
type_row file sizes table row at = do
  index ← u4_at file at table
  _ ← index_test index.0 sizes.strings TypeIds row
  Value index

unfoldable pub types_at : List ℕ → Sizes → Section → Script Fault (List ℕ × ℕ)
types_at file sizes table = rows table.size 0 (type_row file sizes table.at) table.at

abbrev pub proto_of : ℕ → List ℕ → ProtoId
proto_of ret params = record { ret = ret; params = params }

-- A proto id: its shorty, its result, and its list of parameters.
unfoldable pub proto_row : List ℕ → Sizes → ℕ → ℕ → Place → Script Fault (ProtoId × Place)
proto_row file sizes table row s = do
  shorty ← u4_at file s.at table
  _ ← index_test shorty.0 sizes.strings ProtoIds row
  ret ← u4_at file shorty.1 table
  _ ← index_test ret.0 sizes.types ProtoIds row
  list ← u4_at file ret.1 table
  params ← type_list_at file sizes.types ProtoIds row list.0 s.total
  Value (proto_of ret.0 params.0, place list.1 params.1)

unfoldable pub protos_at : List ℕ → Sizes → Section → ℕ → Script Fault (List ProtoId × Place)
protos_at file sizes table total = rows table.size 0 (proto_row file sizes table.at) (place table.at total)

abbrev pub field_of : ℕ → ℕ → ℕ → FieldId
field_of class kind name = record { class = class; kind = kind; name = name }

-- A field id: its class, its type, and its name.
unfoldable pub field_row : List ℕ → Sizes → ℕ → ℕ → ℕ → Script Fault (FieldId × ℕ)
field_row file sizes table row at = do
  class ← u2_at file at table
  _ ← index_test class.0 sizes.types FieldIds row
  kind ← u2_at file class.1 table
  _ ← index_test kind.0 sizes.types FieldIds row
  name ← u4_at file kind.1 table
  _ ← index_test name.0 sizes.strings FieldIds row
  Value (field_of class.0 kind.0 name.0, name.1)

unfoldable pub fields_at : List ℕ → Sizes → Section → Script Fault (List FieldId × ℕ)
fields_at file sizes table = rows table.size 0 (field_row file sizes table.at) table.at

abbrev pub method_of : ℕ → ℕ → ℕ → MethodRow
method_of class proto name = record { class = class; proto = proto; name = name }

-- A method id: its class, its proto, and its name.
unfoldable pub method_row : List ℕ → Sizes → ℕ → ℕ → ℕ → Script Fault (MethodRow × ℕ)
method_row file sizes table row at = do
  class ← u2_at file at table
  _ ← index_test class.0 sizes.types MethodIds row
  proto ← u2_at file class.1 table
  _ ← index_test proto.0 sizes.protos MethodIds row
  name ← u4_at file proto.1 table
  _ ← index_test name.0 sizes.strings MethodIds row
  Value (method_of class.0 proto.0 name.0, name.1)

unfoldable pub methods_at : List ℕ → Sizes → Section → Script Fault (List MethodRow × ℕ)
methods_at file sizes table = rows table.size 0 (method_row file sizes table.at) table.at
