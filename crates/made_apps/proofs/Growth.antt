-- How many rows the tables have at most.
use Rattle.std.proofs.Common.{ℕ, suc, ◌+◌, ◌≤◌, true, false, cond, List, [], ◌∷◌, ◌++◌, length, length-append, arith}
use Rattle.std.specs.Prelude.{is_some}
use Rattle.std.specs.declared.cmp.Ordering.{Ordering}
use Rattle.std.specs.Ordering.{nat_cmp}
use Rattle.dex_writer.specs.declared.tables.Tables.{Tables}
use Rattle.dex_writer.specs.Rows.{place, with_row}
use Rattle.dex_writer.specs.Tables.{list_cmp, string_index, proto_row, field_row, method_row, shorty, with_string, with_type, with_types, proto_types, with_proto, for_field, for_method, with_field, with_method, and_field, and_method}

-- each table has at most so many rows
pub record AtMost (n : ℕ) (t : Tables) : Type 0 where
  pub strings : length t.strings ≤ n
  pub types : length t.types ≤ n
  pub protos : length t.protos ≤ n
  pub fields : length t.fields ≤ n
  pub methods : length t.methods ≤ n

pub weaker : (m n : ℕ) (t : Tables) → m ≤ n → AtMost m t → AtMost n t
weaker m n t le a = record {
  strings = omega (arith, a.strings);
  types = omega (arith, a.types);
  protos = omega (arith, a.protos);
  fields = omega (arith, a.fields);
  methods = omega (arith, a.methods);
}

row_most : {K : Type 0} (cmp : K → K → Ordering) (rows : List K) (row : K) → length (with_row cmp rows row) ≤ length rows + 1
row_most cmp rows row =
    elim (is_some (place cmp rows row)) as (λ b. length (cond b rows (rows ++ row ∷ [])) ≤ length rows + 1) [ true ↦ omega arith | false ↦ omega (arith, length-append rows (row ∷ [])) ]

string_most : (n : ℕ) (t : Tables) (name : List ℕ) → AtMost n t → AtMost (n + 1) (with_string t name)
unfolding with_string
string_most n t name a = record {
  strings = omega (arith, a.strings, row_most list_cmp t.strings name);
  types = omega (arith, a.types);
  protos = omega (arith, a.protos);
  fields = omega (arith, a.fields);
  methods = omega (arith, a.methods);
}

pub type_most : (n : ℕ) (t : Tables) (name : List ℕ) → AtMost n t → AtMost (n + 1) (with_type t name)
unfolding with_type with_string
type_most n t name a = record {
  strings = omega (arith, a.strings, row_most list_cmp t.strings name);
  types = omega (arith, a.types, row_most nat_cmp t.types (string_index (with_string t name) name));
  protos = omega (arith, a.protos);
  fields = omega (arith, a.fields);
  methods = omega (arith, a.methods);
}

types_most : (n : ℕ) (t : Tables) (names : List (List ℕ)) → AtMost n t → AtMost (n + length names) (with_types t names)
types_most n t [] a = weaker n (n + 0) t (omega arith) a
types_most n t (name ∷ names) a = weaker (n + 1 + length names) (n + suc (length names)) (with_types (with_type t name) names) (omega arith) (types_most (n + 1) (with_type t name) names (type_most n t name a))

proto_most : (n : ℕ) (t : Tables) (params : List (List ℕ)) (ret : List ℕ) → AtMost n t → AtMost (n + 3 + length params) (with_proto t params ret)
unfolding with_proto proto_types
proto_most n t params ret a =
    let types = proto_types t params ret in
    let b : AtMost (n + 1 + 1 + length params) types = types_most (n + 1 + 1) (with_type (with_string t (shorty params ret)) ret) params (type_most (n + 1) (with_string t (shorty params ret)) ret (string_most n t (shorty params ret) a)) in
    record {
      strings = omega (arith, b.strings);
      types = omega (arith, b.types);
      protos = omega (arith, b.protos, row_most list_cmp types.protos (proto_row types params ret));
      fields = omega (arith, b.fields);
      methods = omega (arith, b.methods);
    }

for_field_most : (n : ℕ) (t : Tables) (class name kind : List ℕ) → AtMost n t → AtMost (n + 1 + 1 + 1) (for_field t class name kind)
unfolding for_field
for_field_most n t class name kind a = string_most (n + 1 + 1) (with_type (with_type t class) kind) name (type_most (n + 1) (with_type t class) kind (type_most n t class a))

for_method_most : (n : ℕ) (t : Tables) (class name : List ℕ) (params : List (List ℕ)) (ret : List ℕ) → AtMost n t → AtMost (n + 1 + 3 + length params + 1) (for_method t class name params ret)
unfolding for_method
for_method_most n t class name params ret a = string_most (n + 1 + 3 + length params) (with_proto (with_type t class) params ret) name (proto_most (n + 1) (with_type t class) params ret (type_most n t class a))

-- A field brings at most 4 rows to a table, and a method at most 6 besides its parameters.
pub field_most : (n : ℕ) (t : Tables) (class name kind : List ℕ) → AtMost n t → AtMost (n + 4) (with_field t class name kind)
unfolding with_field
field_most n t class name kind a =
    let f = for_field t class name kind in
    let b : AtMost (n + 1 + 1 + 1) f = for_field_most n t class name kind a in
    record {
      strings = omega (arith, b.strings);
      types = omega (arith, b.types);
      protos = omega (arith, b.protos);
      fields = omega (arith, b.fields, row_most list_cmp f.fields (field_row f class name kind));
      methods = omega (arith, b.methods);
    }

pub method_most : (n : ℕ) (t : Tables) (class name : List ℕ) (params : List (List ℕ)) (ret : List ℕ) → AtMost n t → AtMost (n + 6 + length params) (with_method t class name params ret)
unfolding with_method
method_most n t class name params ret a =
    let f = for_method t class name params ret in
    let b : AtMost (n + 1 + 3 + length params + 1) f = for_method_most n t class name params ret a in
    record {
      strings = omega (arith, b.strings);
      types = omega (arith, b.types);
      protos = omega (arith, b.protos);
      fields = omega (arith, b.fields);
      methods = omega (arith, b.methods, row_most list_cmp f.methods (method_row f class name params ret));
    }

pub own_field_most : (n : ℕ) (t : Tables) (class name kind : List ℕ) → AtMost n t → AtMost (n + 4) (and_field t class name kind)
unfolding and_field
own_field_most n t class name kind a =
    let f = for_field t class name kind in
    let b : AtMost (n + 1 + 1 + 1) f = for_field_most n t class name kind a in
    record {
      strings = omega (arith, b.strings);
      types = omega (arith, b.types);
      protos = omega (arith, b.protos);
      fields = omega (arith, b.fields, length-append f.fields (field_row f class name kind ∷ []));
      methods = omega (arith, b.methods);
    }

pub own_method_most : (n : ℕ) (t : Tables) (class name : List ℕ) (params : List (List ℕ)) (ret : List ℕ) → AtMost n t → AtMost (n + 6 + length params) (and_method t class name params ret)
unfolding and_method
own_method_most n t class name params ret a =
    let f = for_method t class name params ret in
    let b : AtMost (n + 1 + 3 + length params + 1) f = for_method_most n t class name params ret a in
    record {
      strings = omega (arith, b.strings);
      types = omega (arith, b.types);
      protos = omega (arith, b.protos);
      fields = omega (arith, b.fields);
      methods = omega (arith, b.methods, length-append f.methods (method_row f class name params ret ∷ []));
    }
