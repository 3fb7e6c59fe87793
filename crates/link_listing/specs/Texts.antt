-- What an index of a DEX file names. Where there is no such row the name is empty; a file that was read has each row.
-- Android documentation, Dalvik Executable format: "string_id_item", "type_id_item", "proto_id_item", "field_id_item", "method_id_item".
use Rattle.std.specs.Prelude.{ℕ, Bool, ◌&&◌, List, [], map, Some, None, slice_get}
use Rattle.dex_tables.specs.declared.dex.Dex.{Dex}
use Rattle.dex_tables.specs.declared.dex.FieldId.{FieldId}
use Rattle.dex_tables.specs.declared.dex.MethodRow.{MethodRow}
use Rattle.app_machine.specs.declared.call.Proto.{Proto}
use Rattle.app_machine.specs.declared.call.MethodRef.{MethodRef}
use Rattle.app_machine.specs.Names.{Name, same_name}

-- a class, a name, and a type or descriptor: what tells a field or a method from all others
abbrev pub Triple : Type 0
Triple = Name × Name × Name

abbrev pub same_triple : Triple → Triple → Bool
same_triple a b = same_name a.0 b.0 && same_name a.1 b.1 && same_name a.2 b.2

unfoldable pub text_of : Dex → ℕ → Name
text_of dex i = elim (slice_get dex.strings i) [ None ↦ [] | Some text ↦ text ]

unfoldable pub type_of : Dex → ℕ → Name
type_of dex i = elim (slice_get dex.types i) [ None ↦ [] | Some text ↦ text_of dex text ]

unfoldable pub types_of : Dex → List ℕ → List Name
types_of dex types = map (type_of dex) types

unfoldable pub proto_of : Dex → ℕ → Proto
proto_of dex i = elim (slice_get dex.protos i) [ None ↦ record { params = []; ret = [] } | Some row ↦ record { params = types_of dex row.params; ret = type_of dex row.ret } ]

abbrev pub field_row : Dex → ℕ → FieldId
field_row dex i = elim (slice_get dex.fields i) [ None ↦ record { class = 0; kind = 0; name = 0 } | Some row ↦ row ]

-- the class, name and type of a field as an instruction names it
unfoldable pub field_of : Dex → ℕ → Triple
field_of dex i = (type_of dex (field_row dex i).class, text_of dex (field_row dex i).name, type_of dex (field_row dex i).kind)

abbrev pub method_row : Dex → ℕ → MethodRow
method_row dex i = elim (slice_get dex.methods i) [ None ↦ record { class = 0; proto = 0; name = 0 } | Some row ↦ row ]

-- a method as an instruction names it
unfoldable pub method_of : Dex → ℕ → MethodRef
method_of dex i = record { class = type_of dex (method_row dex i).class; name = text_of dex (method_row dex i).name; proto = proto_of dex (method_row dex i).proto }
