-- The tables of a listing are sound: their rows name rows that are there, and no string holds a 0 byte.
use Rattle.std.proofs.Common.{ℕ, suc, ◌+◌, ◌<◌, ◌≤◌, true, false, cond, eqb, List, [], ◌∷◌, ◌++◌, length, drop, map, Option, Some, None, length-append, arith}
use Rattle.std.specs.Prelude.{is_some, unwrap_or, slice_index}
use Rattle.std.specs.Option.{option_map}
use Rattle.std.specs.List.{AllByRecursion, flat_map}
use Rattle.std.specs.declared.cmp.Ordering.{Ordering}
use Rattle.std.specs.Ordering.{is_eq, nat_cmp}
use Rattle.dex_writer.specs.declared.tables.Tables.{Tables}
use Rattle.dex_writer.specs.Rows.{place, with_row}
use Rattle.dex_writer.specs.Tables.{list_cmp, string_index, type_index, letter, shorty, proto_row, proto_index, field_row, method_row, with_string, add_type, with_type, with_types, add_proto, proto_types, with_proto, for_field, for_method, add_field, with_field, add_method, with_method, push_field, and_field, push_method, and_method}
use Rattle.dex_round_trip.specs.Listings.{IsName, AreNames}

-- ---- lists of which each is so

pub all_imp : {X : Type 0} (P Q : X → Type 0) → ((x : X) → P x → Q x) → (xs : List X) → AllByRecursion P xs → AllByRecursion Q xs
all_imp P Q f [] all = tt
all_imp P Q f (x ∷ xs) all = (f x all.0, all_imp P Q f xs all.1)

pub all_end : {X : Type 0} (P : X → Type 0) (xs : List X) (x : X) → AllByRecursion P xs → P x → AllByRecursion P (xs ++ x ∷ [])
all_end P [] x all p = (p, tt)
all_end P (y ∷ ys) x all p = (all.0, all_end P ys x all.1 p)

-- ---- places

abbrev InRange : ℕ → Option ℕ → Type 0
InRange len None = Unit {0}
InRange len (Some n) = n < len

next_range : (len : ℕ) (o : Option ℕ) → InRange len o → InRange (suc len) (option_map (λ n. n + 1) o)
next_range len None h = tt
next_range len (Some n) h = omega arith

in_range : {K : Type 0} (cmp : K → K → Ordering) (xs : List K) (q : K) → InRange (length xs) (place cmp xs q)
in_range cmp [] q = tt
in_range cmp (x ∷ xs) q =
    elim (is_eq (cmp q x)) as (λ b. InRange (suc (length xs)) (cond b (Some 0) (option_map (λ n. n + 1) (place cmp xs q)))) [
      | true ↦ omega arith
      | false ↦ next_range (length xs) (place cmp xs q) (in_range cmp xs q)
    ]

or_first : (len : ℕ) (o : Option ℕ) → InRange len o → 0 < len → unwrap_or o 0 < len
or_first len None h lt = lt
or_first len (Some n) h lt = h

pub index_below : {K : Type 0} (cmp : K → K → Ordering) (xs : List K) (q : K) → 0 < length xs → unwrap_or (place cmp xs q) 0 < length xs
index_below cmp xs q lt = or_first (length xs) (place cmp xs q) (in_range cmp xs q) lt

-- ---- one more row

row_all : {K : Type 0} (cmp : K → K → Ordering) (P : K → Type 0) (rows : List K) (row : K) → AllByRecursion P rows → P row → AllByRecursion P (with_row cmp rows row)
row_all cmp P rows row all p =
    elim (is_some (place cmp rows row)) as (λ b. AllByRecursion P (cond b rows (rows ++ row ∷ []))) [ true ↦ all | false ↦ all_end P rows row all p ]

row_more : {K : Type 0} (cmp : K → K → Ordering) (rows : List K) (row : K) → length rows ≤ length (with_row cmp rows row)
row_more cmp rows row =
    elim (is_some (place cmp rows row)) as (λ b. length rows ≤ length (cond b rows (rows ++ row ∷ []))) [ true ↦ omega arith | false ↦ omega (arith, length-append rows (row ∷ [])) ]

row_some : {K : Type 0} (cmp : K → K → Ordering) (rows : List K) (row : K) → 0 < length (with_row cmp rows row)
row_some cmp [] row = omega arith
row_some cmp (x ∷ xs) row = omega (arith, row_more cmp (x ∷ xs) row)

-- ---- sound tables

-- a row of three numbers below these sizes
pub record RowFits (classes middle names : ℕ) (row : List ℕ) : Type 0 where
  pub first : slice_index row 0 < classes
  pub second : slice_index row 1 < middle
  pub third : slice_index row 2 < names

pub record ProtoStands (strings types : ℕ) (row : List ℕ) : Type 0 where
  pub shorty : slice_index row 0 < strings
  pub ret : slice_index row 1 < types
  pub params : AllByRecursion (λ x. x < types) (drop 2 row)

pub record Sound (t : Tables) : Type 0 where
  pub strings : AreNames t.strings
  pub types : AllByRecursion (λ x. x < length t.strings) t.types
  pub protos : AllByRecursion (ProtoStands (length t.strings) (length t.types)) t.protos
  pub fields : AllByRecursion (RowFits (length t.types) (length t.types) (length t.strings)) t.fields
  pub methods : AllByRecursion (RowFits (length t.types) (length t.protos) (length t.strings)) t.methods

below_imp : (a b : ℕ) → a ≤ b → (x : ℕ) → x < a → x < b
below_imp a b le x lt = omega arith

proto_imp : (s s' y y' : ℕ) → s ≤ s' → y ≤ y' → (row : List ℕ) → ProtoStands s y row → ProtoStands s' y' row
proto_imp s s' y y' les ley row p = record {
  shorty = omega (arith, p.shorty);
  ret = omega (arith, p.ret);
  params = all_imp (λ x. x < y) (λ x. x < y') (below_imp y y' ley) (drop 2 row) p.params;
}

row_imp : (a a' b b' c c' : ℕ) → a ≤ a' → b ≤ b' → c ≤ c' → (row : List ℕ) → RowFits a b c row → RowFits a' b' c' row
row_imp a a' b b' c c' la lb lc row r = record { first = omega (arith, r.first); second = omega (arith, r.second); third = omega (arith, r.third) }

more_strings : (t : Tables) (s : List (List ℕ)) → Sound t → AreNames s → length t.strings ≤ length s → Sound (record t { strings = s })
more_strings t s sound names le = record {
  strings = names;
  types = all_imp (λ x. x < length t.strings) (λ x. x < length s) (below_imp _ _ le) t.types sound.types;
  protos = all_imp (ProtoStands (length t.strings) (length t.types)) (ProtoStands (length s) (length t.types)) (proto_imp _ _ _ _ le (omega arith)) t.protos sound.protos;
  fields = all_imp (RowFits (length t.types) (length t.types) (length t.strings)) (RowFits (length t.types) (length t.types) (length s)) (row_imp _ _ _ _ _ _ (omega arith) (omega arith) le) t.fields sound.fields;
  methods = all_imp (RowFits (length t.types) (length t.protos) (length t.strings)) (RowFits (length t.types) (length t.protos) (length s)) (row_imp _ _ _ _ _ _ (omega arith) (omega arith) le) t.methods sound.methods;
}

more_types : (t : Tables) (y : List ℕ) → Sound t → AllByRecursion (λ x. x < length t.strings) y → length t.types ≤ length y → Sound (record t { types = y })
more_types t y sound below le = record {
  strings = sound.strings;
  types = below;
  protos = all_imp (ProtoStands (length t.strings) (length t.types)) (ProtoStands (length t.strings) (length y)) (proto_imp _ _ _ _ (omega arith) le) t.protos sound.protos;
  fields = all_imp (RowFits (length t.types) (length t.types) (length t.strings)) (RowFits (length y) (length y) (length t.strings)) (row_imp _ _ _ _ _ _ le le (omega arith)) t.fields sound.fields;
  methods = all_imp (RowFits (length t.types) (length t.protos) (length t.strings)) (RowFits (length y) (length t.protos) (length t.strings)) (row_imp _ _ _ _ _ _ le (omega arith) (omega arith)) t.methods sound.methods;
}

more_protos : (t : Tables) (p : List (List ℕ)) → Sound t → AllByRecursion (ProtoStands (length t.strings) (length t.types)) p → length t.protos ≤ length p → Sound (record t { protos = p })
more_protos t p sound stand le = record {
  strings = sound.strings;
  types = sound.types;
  protos = stand;
  fields = sound.fields;
  methods = all_imp (RowFits (length t.types) (length t.protos) (length t.strings)) (RowFits (length t.types) (length p) (length t.strings)) (row_imp _ _ _ _ _ _ (omega arith) le (omega arith)) t.methods sound.methods;
}

more_fields : (t : Tables) (f : List (List ℕ)) → Sound t → AllByRecursion (RowFits (length t.types) (length t.types) (length t.strings)) f → Sound (record t { fields = f })
more_fields t f sound fit = record { strings = sound.strings; types = sound.types; protos = sound.protos; fields = fit; methods = sound.methods }

more_methods : (t : Tables) (m : List (List ℕ)) → Sound t → AllByRecursion (RowFits (length t.types) (length t.protos) (length t.strings)) m → Sound (record t { methods = m })
more_methods t m sound fit = record { strings = sound.strings; types = sound.types; protos = sound.protos; fields = sound.fields; methods = fit }

-- ---- tables that grow

-- sound tables with at least as many rows, so many fields and methods more among them
pub record Grown (f m : ℕ) (t u : Tables) : Type 0 where
  pub sound : Sound u
  pub strings : length t.strings ≤ length u.strings
  pub types : length t.types ≤ length u.types
  pub protos : length t.protos ≤ length u.protos
  pub fields : length t.fields + f ≤ length u.fields
  pub methods : length t.methods + m ≤ length u.methods

pub stays : (t : Tables) → Sound t → Grown 0 0 t t
stays t sound = record { sound = sound; strings = omega arith; types = omega arith; protos = omega arith; fields = omega arith; methods = omega arith }

pub then_grown : (f m g n : ℕ) (t u v : Tables) → Grown f m t u → Grown g n u v → Grown (f + g) (m + n) t v
then_grown f m g n t u v a b = record {
  sound = b.sound;
  strings = omega (arith, a.strings, b.strings);
  types = omega (arith, a.types, b.types);
  protos = omega (arith, a.protos, b.protos);
  fields = omega (arith, a.fields, b.fields);
  methods = omega (arith, a.methods, b.methods);
}

-- ---- one entry after the other

pub string_grown : (t : Tables) (name : List ℕ) → Sound t → IsName name → Grown 0 0 t (with_string t name)
unfolding with_string
string_grown t name sound is =
    let le = row_more list_cmp t.strings name in
    record { sound = more_strings t (with_row list_cmp t.strings name) sound (row_all list_cmp IsName t.strings name sound.strings is) le; strings = le; types = omega arith; protos = omega arith; fields = omega arith; methods = omega arith }

string_some : (t : Tables) (name : List ℕ) → 0 < length (with_string t name).strings
unfolding with_string
string_some t name = row_some list_cmp t.strings name

string_below : (t : Tables) (name : List ℕ) → 0 < length t.strings → string_index t name < length t.strings
unfolding string_index
string_below t name lt = index_below list_cmp t.strings name lt

pub type_below : (t : Tables) (name : List ℕ) → 0 < length t.types → type_index t name < length t.types
unfolding type_index
type_below t name lt = index_below nat_cmp t.types (string_index t name) lt

proto_below : (t : Tables) (params : List (List ℕ)) (ret : List ℕ) → 0 < length t.protos → proto_index t params ret < length t.protos
unfolding proto_index
proto_below t params ret lt = index_below list_cmp t.protos (proto_row t params ret) lt

add_grown : (t : Tables) (x : ℕ) → Sound t → x < length t.strings → Grown 0 0 t (add_type t x)
add_grown t x sound lt =
    let le = row_more nat_cmp t.types x in
    record { sound = more_types t (with_row nat_cmp t.types x) sound (row_all nat_cmp (λ y. y < length t.strings) t.types x sound.types lt) le; strings = omega arith; types = le; protos = omega arith; fields = omega arith; methods = omega arith }

pub type_grown : (t : Tables) (name : List ℕ) → Sound t → IsName name → Grown 0 0 t (with_type t name)
unfolding with_type
type_grown t name sound is =
    let u = with_string t name in
    let a = string_grown t name sound is in
    then_grown 0 0 0 0 t u (add_type u (string_index u name)) a (add_grown u (string_index u name) a.sound (string_below u name (string_some t name)))

pub type_some : (t : Tables) (name : List ℕ) → 0 < length (with_type t name).types
unfolding with_type
type_some t name = row_some nat_cmp (with_string t name).types (string_index (with_string t name) name)

type_strings : (t : Tables) (name : List ℕ) → 0 < length (with_type t name).strings
unfolding with_type
type_strings t name = string_some t name

pub types_grown : (t : Tables) (names : List (List ℕ)) → Sound t → AreNames names → Grown 0 0 t (with_types t names)
types_grown t [] sound are = stays t sound
types_grown t (n ∷ ns) sound are =
    let a = type_grown t n sound are.0 in
    then_grown 0 0 0 0 t (with_type t n) (with_types (with_type t n) ns) a (types_grown (with_type t n) ns a.sound are.1)

-- ---- shorties

letter_above : (b : ℕ) → 0 < b → 0 < cond (eqb b 91) 76 b
letter_above b lt = elim (eqb b 91) as (λ k. 0 < cond k 76 b) [ true ↦ omega arith | false ↦ lt ]

all_append : {X : Type 0} (P : X → Type 0) (xs ys : List X) → AllByRecursion P xs → AllByRecursion P ys → AllByRecursion P (xs ++ ys)
all_append P [] ys a b = b
all_append P (x ∷ xs) ys a b = (a.0, all_append P xs ys a.1 b)

letter_is : (name : List ℕ) → IsName name → IsName (letter name)
letter_is [] is = tt
letter_is (b ∷ bytes) is = (letter_above b is.0, tt)

letters_are : (names : List (List ℕ)) → AreNames names → IsName (flat_map letter names)
letters_are [] are = tt
letters_are (n ∷ ns) are = all_append (λ b. 0 < b) (letter n) (flat_map letter ns) (letter_is n are.0) (letters_are ns are.1)

shorty_is : (params : List (List ℕ)) (ret : List ℕ) → AreNames params → IsName ret → IsName (shorty params ret)
unfolding shorty
shorty_is params ret ps r = all_append (λ b. 0 < b) (letter ret) (flat_map letter params) (letter_is ret r) (letters_are params ps)

-- ---- protos

types_below : (t : Tables) (names : List (List ℕ)) → 0 < length t.types → AllByRecursion (λ x. x < length t.types) (map (type_index t) names)
types_below t [] lt = tt
types_below t (n ∷ ns) lt = (type_below t n lt, types_below t ns lt)

proto_row_stands : (t : Tables) (params : List (List ℕ)) (ret : List ℕ) → 0 < length t.strings → 0 < length t.types → ProtoStands (length t.strings) (length t.types) (proto_row t params ret)
unfolding proto_row
proto_row_stands t params ret s y = record { shorty = string_below t (shorty params ret) s; ret = type_below t ret y; params = types_below t params y }

-- sound tables that have grown, with strings and types
record Ready (t u : Tables) : Type 0 where
  pub grown : Grown 0 0 t u
  pub strings : 0 < length u.strings
  pub types : 0 < length u.types

proto_types_ready : (t : Tables) (params : List (List ℕ)) (ret : List ℕ) → Sound t → AreNames params → IsName ret → Ready t (proto_types t params ret)
unfolding proto_types
proto_types_ready t params ret sound ps r =
    let s = shorty params ret in
    let u = with_string t s in
    let v = with_type u ret in
    let w = with_types v params in
    let a = string_grown t s sound (shorty_is params ret ps r) in
    let b = type_grown u ret a.sound r in
    let c = types_grown v params b.sound ps in
    record {
      grown = then_grown 0 0 0 0 t v w (then_grown 0 0 0 0 t u v a b) c;
      strings = omega (arith, type_strings u ret, c.strings);
      types = omega (arith, type_some u ret, c.types);
    }

add_proto_grown : (t : Tables) (row : List ℕ) → Sound t → ProtoStands (length t.strings) (length t.types) row → Grown 0 0 t (add_proto t row)
add_proto_grown t row sound stands =
    let le = row_more list_cmp t.protos row in
    record { sound = more_protos t (with_row list_cmp t.protos row) sound (row_all list_cmp (ProtoStands (length t.strings) (length t.types)) t.protos row sound.protos stands) le; strings = omega arith; types = omega arith; protos = le; fields = omega arith; methods = omega arith }

proto_grown : (t : Tables) (params : List (List ℕ)) (ret : List ℕ) → Sound t → AreNames params → IsName ret → Grown 0 0 t (with_proto t params ret)
unfolding with_proto
proto_grown t params ret sound ps r =
    let u = proto_types t params ret in
    let a = proto_types_ready t params ret sound ps r in
    then_grown 0 0 0 0 t u (add_proto u (proto_row u params ret)) a.grown (add_proto_grown u (proto_row u params ret) a.grown.sound (proto_row_stands u params ret a.strings a.types))

proto_some : (t : Tables) (params : List (List ℕ)) (ret : List ℕ) → 0 < length (with_proto t params ret).protos
unfolding with_proto
proto_some t params ret = row_some list_cmp (proto_types t params ret).protos (proto_row (proto_types t params ret) params ret)

-- ---- fields and methods

for_field_ready : (t : Tables) (class name kind : List ℕ) → Sound t → IsName class → IsName name → IsName kind → Ready t (for_field t class name kind)
unfolding for_field
for_field_ready t class name kind sound c n k =
    let u = with_type t class in
    let v = with_type u kind in
    let w = with_string v name in
    let a = type_grown t class sound c in
    let b = type_grown u kind a.sound k in
    let d = string_grown v name b.sound n in
    record {
      grown = then_grown 0 0 0 0 t v w (then_grown 0 0 0 0 t u v a b) d;
      strings = string_some v name;
      types = omega (arith, type_some u kind, d.types);
    }

field_row_fits : (t : Tables) (class name kind : List ℕ) → 0 < length t.strings → 0 < length t.types → RowFits (length t.types) (length t.types) (length t.strings) (field_row t class name kind)
unfolding field_row
field_row_fits t class name kind s y = record { first = type_below t class y; second = type_below t kind y; third = string_below t name s }

pub with_field_grown : (t : Tables) (class name kind : List ℕ) → Sound t → IsName class → IsName name → IsName kind → Grown 0 0 t (with_field t class name kind)
unfolding with_field
with_field_grown t class name kind sound c n k =
    let u = for_field t class name kind in
    let row = field_row u class name kind in
    let a = for_field_ready t class name kind sound c n k in
    let le = row_more list_cmp u.fields row in
    let fits = row_all list_cmp (RowFits (length u.types) (length u.types) (length u.strings)) u.fields row a.grown.sound.fields (field_row_fits u class name kind a.strings a.types) in
    then_grown 0 0 0 0 t u (add_field u row) a.grown
    (record { sound = more_fields u (with_row list_cmp u.fields row) a.grown.sound fits; strings = omega arith; types = omega arith; protos = omega arith; fields = omega (arith, le); methods = omega arith })

pub and_field_grown : (t : Tables) (class name kind : List ℕ) → Sound t → IsName class → IsName name → IsName kind → Grown 1 0 t (and_field t class name kind)
unfolding and_field
and_field_grown t class name kind sound c n k =
    let u = for_field t class name kind in
    let row = field_row u class name kind in
    let a = for_field_ready t class name kind sound c n k in
    let fits = all_end (RowFits (length u.types) (length u.types) (length u.strings)) u.fields row a.grown.sound.fields (field_row_fits u class name kind a.strings a.types) in
    then_grown 0 0 1 0 t u (push_field u row) a.grown
    (record { sound = more_fields u (u.fields ++ row ∷ []) a.grown.sound fits; strings = omega arith; types = omega arith; protos = omega arith; fields = omega (arith, length-append u.fields (row ∷ [])); methods = omega arith })

record MethodReady (t u : Tables) : Type 0 where
  pub grown : Grown 0 0 t u
  pub strings : 0 < length u.strings
  pub types : 0 < length u.types
  pub protos : 0 < length u.protos

for_method_ready : (t : Tables) (class name : List ℕ) (params : List (List ℕ)) (ret : List ℕ) → Sound t → IsName class → IsName name → AreNames params → IsName ret → MethodReady t (for_method t class name params ret)
unfolding for_method
for_method_ready t class name params ret sound c n ps r =
    let u = with_type t class in
    let v = with_proto u params ret in
    let w = with_string v name in
    let a = type_grown t class sound c in
    let b = proto_grown u params ret a.sound ps r in
    let d = string_grown v name b.sound n in
    record {
      grown = then_grown 0 0 0 0 t v w (then_grown 0 0 0 0 t u v a b) d;
      strings = string_some v name;
      types = omega (arith, type_some t class, b.types, d.types);
      protos = omega (arith, proto_some u params ret, d.protos);
    }

method_row_fits : (t : Tables) (class name : List ℕ) (params : List (List ℕ)) (ret : List ℕ) → 0 < length t.strings → 0 < length t.types → 0 < length t.protos
    → RowFits (length t.types) (length t.protos) (length t.strings) (method_row t class name params ret)
unfolding method_row
method_row_fits t class name params ret s y p = record { first = type_below t class y; second = proto_below t params ret p; third = string_below t name s }

pub with_method_grown : (t : Tables) (class name : List ℕ) (params : List (List ℕ)) (ret : List ℕ) → Sound t → IsName class → IsName name → AreNames params → IsName ret → Grown 0 0 t (with_method t class name params ret)
unfolding with_method
with_method_grown t class name params ret sound c n ps r =
    let u = for_method t class name params ret in
    let row = method_row u class name params ret in
    let a = for_method_ready t class name params ret sound c n ps r in
    let le = row_more list_cmp u.methods row in
    let fits = row_all list_cmp (RowFits (length u.types) (length u.protos) (length u.strings)) u.methods row a.grown.sound.methods (method_row_fits u class name params ret a.strings a.types a.protos) in
    then_grown 0 0 0 0 t u (add_method u row) a.grown
    (record { sound = more_methods u (with_row list_cmp u.methods row) a.grown.sound fits; strings = omega arith; types = omega arith; protos = omega arith; fields = omega arith; methods = omega (arith, le) })

pub and_method_grown : (t : Tables) (class name : List ℕ) (params : List (List ℕ)) (ret : List ℕ) → Sound t → IsName class → IsName name → AreNames params → IsName ret → Grown 0 1 t (and_method t class name params ret)
unfolding and_method
and_method_grown t class name params ret sound c n ps r =
    let u = for_method t class name params ret in
    let row = method_row u class name params ret in
    let a = for_method_ready t class name params ret sound c n ps r in
    let fits = all_end (RowFits (length u.types) (length u.protos) (length u.strings)) u.methods row a.grown.sound.methods (method_row_fits u class name params ret a.strings a.types a.protos) in
    then_grown 0 0 0 1 t u (push_method u row) a.grown
    (record { sound = more_methods u (u.methods ++ row ∷ []) a.grown.sound fits; strings = omega arith; types = omega arith; protos = omega arith; fields = omega arith; methods = omega (arith, length-append u.methods (row ∷ [])) })
