-- The id tables of a file, and which row is whose ("Dalvik executable format": string_id_item to method_id_item).
use Rattle.std.specs.Prelude.{ℕ, List, [], ◌∷◌, ◌++◌, map, unwrap_or, ◌==◌, if◌then◌else◌}
use Rattle.std.specs.declared.cmp.Ordering.{Ordering}
use Rattle.std.specs.List.{flat_map}
use Rattle.std.specs.Ordering.{nat_cmp}
use Rattle.std.specs.Cmp.Lexicographic.{slice_cmp}
use Rattle.dex_writer.specs.declared.tables.Tables.{Tables}
use Rattle.dex_writer.specs.Rows.{place, with_row}

-- names, and rows as numbers, are ordered number by number
abbrev pub list_cmp : List ℕ → List ℕ → Ordering
list_cmp = slice_cmp nat_cmp

-- the row of a string or of a type, the first where there is none
unfoldable pub string_index : Tables → List ℕ → ℕ
string_index t name = unwrap_or (place list_cmp t.strings name) 0

unfoldable pub type_index : Tables → List ℕ → ℕ
type_index t name = unwrap_or (place nat_cmp t.types (string_index t name)) 0

-- A shorty has a letter for the result and one for each parameter: `L` for a class or an array, else the descriptor's own.
abbrev pub letter : List ℕ → List ℕ
letter [] = []
letter (b ∷ bytes) = (if b == 91 then 76 else b) ∷ []

unfoldable pub shorty : List (List ℕ) → List ℕ → List ℕ
shorty params ret = letter ret ++ flat_map letter params

-- what a row of protos, of fields or of methods says
unfoldable pub proto_row : Tables → List (List ℕ) → List ℕ → List ℕ
proto_row t params ret = string_index t (shorty params ret) ∷ type_index t ret ∷ map (type_index t) params

unfoldable pub proto_index : Tables → List (List ℕ) → List ℕ → ℕ
proto_index t params ret = unwrap_or (place list_cmp t.protos (proto_row t params ret)) 0

unfoldable pub field_row : Tables → List ℕ → List ℕ → List ℕ → List ℕ
field_row t class name kind = type_index t class ∷ type_index t kind ∷ string_index t name ∷ []

unfoldable pub field_index : Tables → List ℕ → List ℕ → List ℕ → ℕ
field_index t class name kind = unwrap_or (place list_cmp t.fields (field_row t class name kind)) 0

unfoldable pub method_row : Tables → List ℕ → List ℕ → List (List ℕ) → List ℕ → List ℕ
method_row t class name params ret = type_index t class ∷ proto_index t params ret ∷ string_index t name ∷ []

unfoldable pub method_index : Tables → List ℕ → List ℕ → List (List ℕ) → List ℕ → ℕ
method_index t class name params ret = unwrap_or (place list_cmp t.methods (method_row t class name params ret)) 0

-- no rows yet
abbrev pub no_tables : Tables
no_tables = record { strings = []; types = []; protos = []; fields = []; methods = [] }

-- with a string, a type, types; each has one row, at the end where it is new
unfoldable pub with_string : Tables → List ℕ → Tables
with_string t name = record t { strings = with_row list_cmp t.strings name }

abbrev pub add_type : Tables → ℕ → Tables
add_type t string = record t { types = with_row nat_cmp t.types string }

unfoldable pub with_type : Tables → List ℕ → Tables
with_type t name = add_type (with_string t name) (string_index (with_string t name) name)

abbrev pub with_types : Tables → List (List ℕ) → Tables
with_types t [] = t
with_types t (name ∷ names) = with_types (with_type t name) names

-- with a proto: its shorty and its types before it
abbrev pub add_proto : Tables → List ℕ → Tables
add_proto t row = record t { protos = with_row list_cmp t.protos row }

unfoldable pub proto_types : Tables → List (List ℕ) → List ℕ → Tables
proto_types t params ret = with_types (with_type (with_string t (shorty params ret)) ret) params

unfoldable pub with_proto : Tables → List (List ℕ) → List ℕ → Tables
with_proto t params ret = add_proto (proto_types t params ret) (proto_row (proto_types t params ret) params ret)

-- with what the row of a field or of a method names
unfoldable pub for_field : Tables → List ℕ → List ℕ → List ℕ → Tables
for_field t class name kind = with_string (with_type (with_type t class) kind) name

unfoldable pub for_method : Tables → List ℕ → List ℕ → List (List ℕ) → List ℕ → Tables
for_method t class name params ret = with_string (with_proto (with_type t class) params ret) name

-- with a field or a method that an instruction names: one row, as above
abbrev pub add_field : Tables → List ℕ → Tables
add_field t row = record t { fields = with_row list_cmp t.fields row }

unfoldable pub with_field : Tables → List ℕ → List ℕ → List ℕ → Tables
with_field t class name kind = add_field (for_field t class name kind) (field_row (for_field t class name kind) class name kind)

abbrev pub add_method : Tables → List ℕ → Tables
add_method t row = record t { methods = with_row list_cmp t.methods row }

unfoldable pub with_method : Tables → List ℕ → List ℕ → List (List ℕ) → List ℕ → Tables
with_method t class name params ret = add_method (for_method t class name params ret) (method_row (for_method t class name params ret) class name params ret)

-- with a field or a method of a class: a row of its own at the end
abbrev pub push_field : Tables → List ℕ → Tables
push_field t row = record t { fields = t.fields ++ row ∷ [] }

unfoldable pub and_field : Tables → List ℕ → List ℕ → List ℕ → Tables
and_field t class name kind = push_field (for_field t class name kind) (field_row (for_field t class name kind) class name kind)

abbrev pub push_method : Tables → List ℕ → Tables
push_method t row = record t { methods = t.methods ++ row ∷ [] }

unfoldable pub and_method : Tables → List ℕ → List ℕ → List (List ℕ) → List ℕ → Tables
and_method t class name params ret = push_method (for_method t class name params ret) (method_row (for_method t class name params ret) class name params ret)
