-- Each step of naming extends the tables, and what it names is there.
use Rattle.std.proofs.Common.{◌≡◌, ℕ, ◌+◌, List, [], ◌∷◌, ◌++◌, length, Some, refl, length-append, arith}
use Rattle.std.specs.Prelude.{slice_get}
use Rattle.std.specs.Ordering.{nat_cmp}
use Rattle.dex_writer.specs.declared.tables.Tables.{Tables}
use Rattle.dex_writer.specs.Rows.{with_row}
use Rattle.dex_writer.specs.Tables.{list_cmp, string_index, type_index, shorty, proto_row, proto_index, field_row, method_row, with_string, add_type, with_type, with_types, add_proto, proto_types, with_proto, for_field, for_method, add_field, with_field, add_method, with_method, push_field, and_field, push_method, and_method}
use Rattle.dex_round_trip.proofs.Extensions.{Prefix, prefix_same, Placed, nat_tells, list_tells, row_placed, row_prefix, Extends, extends_same, extends_more, HasString, HasType, HasTypes, HasProto, has_string, has_type, has_types, has_proto}
use Rattle.vet_base.proofs.Lists.{slice_get_push}

-- extended by exactly so many fields and methods
pub record Adds (f m : ℕ) (t u : Tables) : Type 0 where
  pub extends : Extends t u
  pub fields : length u.fields ≡ length t.fields + f
  pub methods : length u.methods ≡ length t.methods + m

pub adds_none : (t : Tables) → Adds 0 0 t t
adds_none t = record { extends = extends_same t; fields = omega arith; methods = omega arith }

pub adds_more : (f m g n : ℕ) (t u v : Tables) → Adds f m t u → Adds g n u v → Adds (f + g) (m + n) t v
adds_more f m g n t u v a b = record { extends = extends_more t u v a.extends b.extends; fields = omega (arith, a.fields, b.fields); methods = omega (arith, a.methods, b.methods) }

-- ---- strings and types

pub string_adds : (t : Tables) (name : List ℕ) → Adds 0 0 t (with_string t name)
unfolding with_string
string_adds t name = record {
  extends = record { strings = row_prefix list_cmp t.strings name; types = prefix_same t.types; protos = prefix_same t.protos; fields = prefix_same t.fields; methods = prefix_same t.methods };
  fields = omega arith;
  methods = omega arith;
}

pub string_there : (t : Tables) (name : List ℕ) → HasString (with_string t name) name
unfolding with_string
string_there t name = row_placed list_cmp list_tells t.strings name

add_type_adds : (t : Tables) (x : ℕ) → Adds 0 0 t (add_type t x)
add_type_adds t x = record {
  extends = record { strings = prefix_same t.strings; types = row_prefix nat_cmp t.types x; protos = prefix_same t.protos; fields = prefix_same t.fields; methods = prefix_same t.methods };
  fields = omega arith;
  methods = omega arith;
}

pub type_adds : (t : Tables) (name : List ℕ) → Adds 0 0 t (with_type t name)
unfolding with_type
type_adds t name =
    let u = with_string t name in
    adds_more 0 0 0 0 t u (add_type u (string_index u name)) (string_adds t name) (add_type_adds u (string_index u name))

same_strings : (t : Tables) (x : ℕ) (name : List ℕ) → string_index (add_type t x) name ≡ string_index t name
unfolding string_index
same_strings t x name = refl

pub type_there : (t : Tables) (name : List ℕ) → HasType (with_type t name) name
unfolding with_type
type_there t name =
    let u = with_string t name in
    let x = string_index u name in
    record { string = string_there t name; row = rw (same_strings u x name) (row_placed nat_cmp nat_tells u.types x) }

pub types_add : (t : Tables) (names : List (List ℕ)) → Adds 0 0 t (with_types t names)
types_add t [] = adds_none t
types_add t (n ∷ ns) = adds_more 0 0 0 0 t (with_type t n) (with_types (with_type t n) ns) (type_adds t n) (types_add (with_type t n) ns)

pub types_there : (t : Tables) (names : List (List ℕ)) → HasTypes (with_types t names) names
types_there t [] = tt
types_there t (n ∷ ns) =
    let u = with_type t n in
    (has_type u (with_types u ns) n (types_add u ns).extends (type_there t n), types_there u ns)

-- ---- protos

record ProtoReady (t u : Tables) (params : List (List ℕ)) (ret : List ℕ) : Type 0 where
  pub adds : Adds 0 0 t u
  pub short : HasString u (shorty params ret)
  pub ret_there : HasType u ret
  pub params_there : HasTypes u params

proto_types_ready : (t : Tables) (params : List (List ℕ)) (ret : List ℕ) → ProtoReady t (proto_types t params ret) params ret
unfolding proto_types
proto_types_ready t params ret =
    let s = shorty params ret in
    let u = with_string t s in
    let v = with_type u ret in
    let w = with_types v params in
    let uv = type_adds u ret in
    let vw = types_add v params in
    let uw = adds_more 0 0 0 0 u v w uv vw in
    record {
      adds = adds_more 0 0 0 0 t u w (string_adds t s) uw;
      short = has_string u w s uw.extends (string_there t s);
      ret_there = has_type v w ret vw.extends (type_there u ret);
      params_there = types_there v params;
    }

add_proto_adds : (t : Tables) (row : List ℕ) → Adds 0 0 t (add_proto t row)
add_proto_adds t row = record {
  extends = record { strings = prefix_same t.strings; types = prefix_same t.types; protos = row_prefix list_cmp t.protos row; fields = prefix_same t.fields; methods = prefix_same t.methods };
  fields = omega arith;
  methods = omega arith;
}

same_proto_row : (t : Tables) (row : List ℕ) (params : List (List ℕ)) (ret : List ℕ) → proto_row (add_proto t row) params ret ≡ proto_row t params ret
unfolding proto_row type_index string_index
same_proto_row t row params ret = refl

record ProtoThere (t u : Tables) (params : List (List ℕ)) (ret : List ℕ) : Type 0 where
  pub adds : Adds 0 0 t u
  pub there : HasProto u params ret

proto_there : (t : Tables) (params : List (List ℕ)) (ret : List ℕ) → ProtoThere t (with_proto t params ret) params ret
unfolding with_proto
proto_there t params ret =
    let u = proto_types t params ret in
    let row = proto_row u params ret in
    let v = add_proto u row in
    let ready = proto_types_ready t params ret in
    let uv = add_proto_adds u row in
    record {
      adds = adds_more 0 0 0 0 t u v ready.adds uv;
      there = record {
        short = has_string u v (shorty params ret) uv.extends ready.short;
        ret_there = has_type u v ret uv.extends ready.ret_there;
        params_there = has_types u v params uv.extends ready.params_there;
        row = rw (same_proto_row u row params ret) (row_placed list_cmp list_tells u.protos row);
      };
    }

-- ---- fields and methods

-- what a row of fields names is there
pub record FieldNames (t : Tables) (class name kind : List ℕ) : Type 0 where
  pub class_there : HasType t class
  pub kind_there : HasType t kind
  pub name_there : HasString t name

pub record MethodNames (t : Tables) (class name : List ℕ) (params : List (List ℕ)) (ret : List ℕ) : Type 0 where
  pub class_there : HasType t class
  pub proto_is_there : HasProto t params ret
  pub name_there : HasString t name

pub field_names : (t u : Tables) (class name kind : List ℕ) → Extends t u → FieldNames t class name kind → FieldNames u class name kind
field_names t u class name kind e h = record { class_there = has_type t u class e h.class_there; kind_there = has_type t u kind e h.kind_there; name_there = has_string t u name e h.name_there }

pub method_names : (t u : Tables) (class name : List ℕ) (params : List (List ℕ)) (ret : List ℕ) → Extends t u → MethodNames t class name params ret → MethodNames u class name params ret
method_names t u class name params ret e h = record { class_there = has_type t u class e h.class_there; proto_is_there = has_proto t u params ret e h.proto_is_there; name_there = has_string t u name e h.name_there }

record FieldReady (t u : Tables) (class name kind : List ℕ) : Type 0 where
  pub adds : Adds 0 0 t u
  pub names : FieldNames u class name kind

for_field_ready : (t : Tables) (class name kind : List ℕ) → FieldReady t (for_field t class name kind) class name kind
unfolding for_field
for_field_ready t class name kind =
    let u = with_type t class in
    let v = with_type u kind in
    let w = with_string v name in
    let uv = type_adds u kind in
    let vw = string_adds v name in
    let uw = adds_more 0 0 0 0 u v w uv vw in
    record {
      adds = adds_more 0 0 0 0 t u w (type_adds t class) uw;
      names = record { class_there = has_type u w class uw.extends (type_there t class); kind_there = has_type v w kind vw.extends (type_there u kind); name_there = string_there v name };
    }

record MethodReady (t u : Tables) (class name : List ℕ) (params : List (List ℕ)) (ret : List ℕ) : Type 0 where
  pub adds : Adds 0 0 t u
  pub names : MethodNames u class name params ret

for_method_ready : (t : Tables) (class name : List ℕ) (params : List (List ℕ)) (ret : List ℕ) → MethodReady t (for_method t class name params ret) class name params ret
unfolding for_method
for_method_ready t class name params ret =
    let u = with_type t class in
    let v = with_proto u params ret in
    let w = with_string v name in
    let proto = proto_there u params ret in
    let vw = string_adds v name in
    let uw = adds_more 0 0 0 0 u v w proto.adds vw in
    record {
      adds = adds_more 0 0 0 0 t u w (type_adds t class) uw;
      names = record { class_there = has_type u w class uw.extends (type_there t class); proto_is_there = has_proto v w params ret vw.extends proto.there; name_there = string_there v name };
    }

-- a row that the tables have, and what it says
pub record FieldThere (t : Tables) (class name kind : List ℕ) : Type 0 where
  pub names : FieldNames t class name kind
  pub row : Placed list_cmp t.fields (field_row t class name kind)

pub record MethodThere (t : Tables) (class name : List ℕ) (params : List (List ℕ)) (ret : List ℕ) : Type 0 where
  pub names : MethodNames t class name params ret
  pub row : Placed list_cmp t.methods (method_row t class name params ret)

same_field_row : (t : Tables) (rows : List (List ℕ)) (class name kind : List ℕ) → field_row (record t { fields = rows }) class name kind ≡ field_row t class name kind
unfolding field_row type_index string_index
same_field_row t rows class name kind = refl

same_method_row : (t : Tables) (rows : List (List ℕ)) (class name : List ℕ) (params : List (List ℕ)) (ret : List ℕ) → method_row (record t { methods = rows }) class name params ret ≡ method_row t class name params ret
unfolding method_row proto_index proto_row type_index string_index
same_method_row t rows class name params ret = refl

fields_extend : (t : Tables) (rows : List (List ℕ)) → Prefix t.fields rows → Extends t (record t { fields = rows })
fields_extend t rows p = record { strings = prefix_same t.strings; types = prefix_same t.types; protos = prefix_same t.protos; fields = p; methods = prefix_same t.methods }

methods_extend : (t : Tables) (rows : List (List ℕ)) → Prefix t.methods rows → Extends t (record t { methods = rows })
methods_extend t rows p = record { strings = prefix_same t.strings; types = prefix_same t.types; protos = prefix_same t.protos; fields = prefix_same t.fields; methods = p }

pub record FieldNamed (t u : Tables) (class name kind : List ℕ) : Type 0 where
  pub extends : Extends t u
  pub there : FieldThere u class name kind

pub with_field_named : (t : Tables) (class name kind : List ℕ) → FieldNamed t (with_field t class name kind) class name kind
unfolding with_field
with_field_named t class name kind =
    let u = for_field t class name kind in
    let row = field_row u class name kind in
    let ready = for_field_ready t class name kind in
    let rows = with_row list_cmp u.fields row in
    let e = fields_extend u rows (row_prefix list_cmp u.fields row) in
    record {
      extends = extends_more t u (add_field u row) ready.adds.extends e;
      there = record { names = field_names u (add_field u row) class name kind e ready.names; row = rw (same_field_row u rows class name kind) (row_placed list_cmp list_tells u.fields row) };
    }

pub record MethodNamed (t u : Tables) (class name : List ℕ) (params : List (List ℕ)) (ret : List ℕ) : Type 0 where
  pub extends : Extends t u
  pub there : MethodThere u class name params ret

pub with_method_named : (t : Tables) (class name : List ℕ) (params : List (List ℕ)) (ret : List ℕ) → MethodNamed t (with_method t class name params ret) class name params ret
unfolding with_method
with_method_named t class name params ret =
    let u = for_method t class name params ret in
    let row = method_row u class name params ret in
    let ready = for_method_ready t class name params ret in
    let rows = with_row list_cmp u.methods row in
    let e = methods_extend u rows (row_prefix list_cmp u.methods row) in
    record {
      extends = extends_more t u (add_method u row) ready.adds.extends e;
      there = record { names = method_names u (add_method u row) class name params ret e ready.names; row = rw (same_method_row u rows class name params ret) (row_placed list_cmp list_tells u.methods row) };
    }

-- a member of a class has the next row
pub record FieldPushed (t u : Tables) (class name kind : List ℕ) : Type 0 where
  pub adds : Adds 1 0 t u
  pub names : FieldNames u class name kind
  pub row : slice_get u.fields (length t.fields) ≡ Some (field_row u class name kind)

pub and_field_pushed : (t : Tables) (class name kind : List ℕ) → FieldPushed t (and_field t class name kind) class name kind
unfolding and_field
and_field_pushed t class name kind =
    let u = for_field t class name kind in
    let row = field_row u class name kind in
    let ready = for_field_ready t class name kind in
    let rows = u.fields ++ row ∷ [] in
    let e = fields_extend u rows (record { rest = row ∷ []; is = refl }) in
    let here : length u.fields ≡ length t.fields = omega (arith, ready.adds.fields) in
    record {
      adds = adds_more 0 0 1 0 t u (push_field u row) ready.adds (record { extends = e; fields = length-append u.fields (row ∷ []); methods = omega arith });
      names = field_names u (push_field u row) class name kind e ready.names;
      row = rw (same_field_row u rows class name kind, ← here) (slice_get_push u.fields row);
    }

pub record MethodPushed (t u : Tables) (class name : List ℕ) (params : List (List ℕ)) (ret : List ℕ) : Type 0 where
  pub adds : Adds 0 1 t u
  pub names : MethodNames u class name params ret
  pub row : slice_get u.methods (length t.methods) ≡ Some (method_row u class name params ret)

pub and_method_pushed : (t : Tables) (class name : List ℕ) (params : List (List ℕ)) (ret : List ℕ) → MethodPushed t (and_method t class name params ret) class name params ret
unfolding and_method
and_method_pushed t class name params ret =
    let u = for_method t class name params ret in
    let row = method_row u class name params ret in
    let ready = for_method_ready t class name params ret in
    let rows = u.methods ++ row ∷ [] in
    let e = methods_extend u rows (record { rest = row ∷ []; is = refl }) in
    let here : length u.methods ≡ length t.methods = omega (arith, ready.adds.methods) in
    record {
      adds = adds_more 0 0 0 1 t u (push_method u row) ready.adds (record { extends = e; fields = omega arith; methods = length-append u.methods (row ∷ []) });
      names = method_names u (push_method u row) class name params ret e ready.names;
      row = rw (same_method_row u rows class name params ret, ← here) (slice_get_push u.methods row);
    }
