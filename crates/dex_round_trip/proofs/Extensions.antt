-- Tables that are extended keep their rows, and what the rows say.
use Rattle.std.proofs.Common.{◌≡◌, ℕ, suc, ◌+◌, true, false, cond, List, [], ◌∷◌, ◌++◌, map, Option, Some, None, refl, sym, ap, subst, ◌∙◌, inl, inr, append_assoc, arith}
use Rattle.std.specs.Prelude.{is_some, unwrap_or, slice_get}
use Rattle.std.specs.Option.{option_map}
use Rattle.std.specs.List.{AllByRecursion}
use Rattle.std.specs.declared.cmp.Ordering.{Ordering}
use Rattle.std.specs.declared.cmp.Ordering.TheVariants.{Equal}
use Rattle.std.specs.Ordering.{is_eq, nat_cmp}
use Rattle.std.proofs.lemmas.List.{append-nil}
use Rattle.std.proofs.lemmas.Map.Lookups.{exact_unsigned, exact_bytes}
use Rattle.std.proofs.lemmas.Cmp.{nat_cmp_total, nat_list_cmp_total, tied_itself}
use Rattle.dex_writer.specs.declared.tables.Tables.{Tables}
use Rattle.dex_writer.specs.Rows.{place, with_row}
use Rattle.dex_writer.specs.Tables.{list_cmp, string_index, type_index, shorty, proto_row, proto_index}
use Rattle.std.proofs.lemmas.Bool.{cases_Bool}
use Rattle.vet_base.proofs.Lists.{slice_get-append}
use Rattle.vet_base.proofs.Orders.{is_equal}

-- ---- lists that are extended

pub record Prefix {X : Type 0} (xs ys : List X) : Type 0 where
  pub rest : List X
  pub is : ys ≡ xs ++ rest

pub prefix_same : {X : Type 0} (xs : List X) → Prefix xs xs
prefix_same xs = record { rest = []; is = sym (append-nil xs) }

pub prefix_more : {X : Type 0} (xs ys zs : List X) → Prefix xs ys → Prefix ys zs → Prefix xs zs
prefix_more {X = X} xs ys zs p q = record { rest = p.rest ++ q.rest; is = q.is ∙ ap (λ (l : List X). l ++ q.rest) p.is ∙ append_assoc xs p.rest q.rest }

pub get_prefix : {X : Type 0} (xs ys : List X) (i : ℕ) (x : X) → Prefix xs ys → slice_get xs i ≡ Some x → slice_get ys i ≡ Some x
get_prefix xs ys i x p e = rw p.is (slice_get-append xs p.rest i x e)

-- ---- places

-- an order that tells all apart
pub record Tells {K : Type 0} (cmp : K → K → Ordering) : Type 0 where
  pub same : (x y : K) → cmp x y ≡ Equal → x ≡ y
  pub itself : (x : K) → is_eq (cmp x x) ≡ true

nat_itself : (x : ℕ) → is_eq (nat_cmp x x) ≡ true
nat_itself x = rw (tied_itself nat_cmp_total x) refl

list_itself : (x : List ℕ) → is_eq (list_cmp x x) ≡ true
list_itself x = rw (tied_itself nat_list_cmp_total x) refl

pub nat_tells : Tells nat_cmp
nat_tells = record { same = exact_unsigned; itself = nat_itself }

pub list_tells : Tells list_cmp
list_tells = record { same = exact_bytes; itself = list_itself }

-- a row is there, at that place
pub record Placed {K : Type 0} (cmp : K → K → Ordering) (rows : List K) (row : K) : Type 0 where
  pub at : ℕ
  pub is : place cmp rows row ≡ Some at

next_some : (o : Option ℕ) (n : ℕ) → option_map (λ k. k + 1) o ≡ Some n → (m : ℕ) × (o ≡ Some m) × (n ≡ m + 1)
next_some None n e = absurd cc
next_some (Some m) n e = (m, refl, cc)

place_get : {K : Type 0} (cmp : K → K → Ordering) → Tells cmp → (rows : List K) (row : K) (n : ℕ) → place cmp rows row ≡ Some n → slice_get rows n ≡ Some row
place_get cmp tells [] row n e = absurd cc
place_get cmp tells (x ∷ xs) row n e =
    elim (cases_Bool (is_eq (cmp row x))) [
      | inl same ↦
          let here : Some 0 ≡ Some n = (rw same at e) in
          let zero-is : n ≡ 0 = cc in
          let x-is : row ≡ x = tells.same row x (is_equal (cmp row x) same) in
          rw (zero-is, x-is) refl
      | inr other ↦
          let later : option_map (λ k. k + 1) (place cmp xs row) ≡ Some n = (rw other at e) in
          let one = next_some (place cmp xs row) n later in
          let next : n ≡ suc one.0 = omega (arith, one.2) in
          rw next (place_get cmp tells xs row one.0 one.1)
    ]

pub placed_row : {K : Type 0} (cmp : K → K → Ordering) → Tells cmp → (rows : List K) (row : K) → Placed cmp rows row → slice_get rows (unwrap_or (place cmp rows row) 0) ≡ Some row
placed_row cmp tells rows row p = rw p.is (place_get cmp tells rows row p.at p.is)

place_append : {K : Type 0} (cmp : K → K → Ordering) (rows rest : List K) (row : K) (n : ℕ) → place cmp rows row ≡ Some n → place cmp (rows ++ rest) row ≡ Some n
place_append cmp [] rest row n e = absurd cc
place_append cmp (x ∷ xs) rest row n e =
    elim (cases_Bool (is_eq (cmp row x))) [
      | inl same ↦ rw same (rw same at e)
      | inr other ↦
          let later : option_map (λ k. k + 1) (place cmp xs row) ≡ Some n = (rw other at e) in
          let one = next_some (place cmp xs row) n later in
          let there : place cmp (xs ++ rest) row ≡ Some one.0 = place_append cmp xs rest row one.0 one.1 in
          rw (other, there) (ap (λ (k : ℕ). Some k) (sym one.2))
    ]

pub placed_more : {K : Type 0} (cmp : K → K → Ordering) (rows more : List K) (row : K) → Prefix rows more → Placed cmp rows row → Placed cmp more row
placed_more cmp rows more row p here = record { at = here.at; is = rw p.is (place_append cmp rows p.rest row here.at here.is) }

-- the place stays
pub place_stays : {K : Type 0} (cmp : K → K → Ordering) (rows more : List K) (row : K) → Prefix rows more → Placed cmp rows row → unwrap_or (place cmp more row) 0 ≡ unwrap_or (place cmp rows row) 0
unfolding placed_more
place_stays cmp rows more row p here = let later = placed_more cmp rows more row p here in rw (later.is, here.is) refl

is_placed : {K : Type 0} (cmp : K → K → Ordering) (rows : List K) (row : K) (o : Option ℕ) → place cmp rows row ≡ o → is_some o ≡ true → Placed cmp rows row
is_placed cmp rows row None e some = absurd cc
is_placed cmp rows row (Some n) e some = record { at = n; is = e }

next_is : (o : Option ℕ) → is_some o ≡ true → is_some (option_map (λ k. k + 1) o) ≡ true
next_is None e = absurd cc
next_is (Some n) e = refl

end_placed : {K : Type 0} (cmp : K → K → Ordering) → Tells cmp → (rows : List K) (row : K) → is_some (place cmp (rows ++ row ∷ []) row) ≡ true
end_placed cmp tells [] row = rw (tells.itself row) refl
end_placed cmp tells (x ∷ xs) row =
    elim (cases_Bool (is_eq (cmp row x))) [
      | inl same ↦ rw same refl
      | inr other ↦ rw other (next_is (place cmp (xs ++ row ∷ []) row) (end_placed cmp tells xs row))
    ]

pub row_placed : {K : Type 0} (cmp : K → K → Ordering) → Tells cmp → (rows : List K) (row : K) → Placed cmp (with_row cmp rows row) row
row_placed {K = K} cmp tells rows row =
    elim (cases_Bool (is_some (place cmp rows row))) [
      | inl there ↦
          let same : with_row cmp rows row ≡ rows = rw there refl in
          subst (λ (l : List K). Placed cmp l row) (sym same) (is_placed cmp rows row (place cmp rows row) refl there)
      | inr absent ↦
          let more : with_row cmp rows row ≡ rows ++ row ∷ [] = rw absent refl in
          subst (λ (l : List K). Placed cmp l row) (sym more) (is_placed cmp (rows ++ row ∷ []) row (place cmp (rows ++ row ∷ []) row) refl (end_placed cmp tells rows row))
    ]

pub row_prefix : {K : Type 0} (cmp : K → K → Ordering) (rows : List K) (row : K) → Prefix rows (with_row cmp rows row)
row_prefix {K = K} cmp rows row =
    elim (is_some (place cmp rows row)) as (λ b. Prefix rows (cond b rows (rows ++ row ∷ []))) [ true ↦ prefix_same rows | false ↦ record { rest = row ∷ []; is = refl } ]

-- ---- tables that are extended

pub record Extends (t u : Tables) : Type 0 where
  pub strings : Prefix t.strings u.strings
  pub types : Prefix t.types u.types
  pub protos : Prefix t.protos u.protos
  pub fields : Prefix t.fields u.fields
  pub methods : Prefix t.methods u.methods

pub extends_same : (t : Tables) → Extends t t
extends_same t = record { strings = prefix_same t.strings; types = prefix_same t.types; protos = prefix_same t.protos; fields = prefix_same t.fields; methods = prefix_same t.methods }

pub extends_more : (t u v : Tables) → Extends t u → Extends u v → Extends t v
extends_more t u v a b = record {
  strings = prefix_more t.strings u.strings v.strings a.strings b.strings;
  types = prefix_more t.types u.types v.types a.types b.types;
  protos = prefix_more t.protos u.protos v.protos a.protos b.protos;
  fields = prefix_more t.fields u.fields v.fields a.fields b.fields;
  methods = prefix_more t.methods u.methods v.methods a.methods b.methods;
}

-- ---- names that the tables have

abbrev pub HasString : Tables → List ℕ → Type 0
HasString t name = Placed list_cmp t.strings name

pub record HasType (t : Tables) (name : List ℕ) : Type 0 where
  pub string : HasString t name
  pub row : Placed nat_cmp t.types (string_index t name)

abbrev pub HasTypes : Tables → List (List ℕ) → Type 0
HasTypes t names = AllByRecursion (HasType t) names

pub record HasProto (t : Tables) (params : List (List ℕ)) (ret : List ℕ) : Type 0 where
  pub short : HasString t (shorty params ret)
  pub ret_there : HasType t ret
  pub params_there : HasTypes t params
  pub row : Placed list_cmp t.protos (proto_row t params ret)

pub has_string : (t u : Tables) (name : List ℕ) → Extends t u → HasString t name → HasString u name
has_string t u name e h = placed_more list_cmp t.strings u.strings name e.strings h

pub string_stays : (t u : Tables) (name : List ℕ) → Extends t u → HasString t name → string_index u name ≡ string_index t name
unfolding string_index
string_stays t u name e h = place_stays list_cmp t.strings u.strings name e.strings h

pub has_type : (t u : Tables) (name : List ℕ) → Extends t u → HasType t name → HasType u name
has_type t u name e h = record {
  string = has_string t u name e h.string;
  row = rw (string_stays t u name e h.string) (placed_more nat_cmp t.types u.types (string_index t name) e.types h.row);
}

pub type_stays : (t u : Tables) (name : List ℕ) → Extends t u → HasType t name → type_index u name ≡ type_index t name
unfolding type_index
type_stays t u name e h = rw (string_stays t u name e h.string) (place_stays nat_cmp t.types u.types (string_index t name) e.types h.row)

pub has_types : (t u : Tables) (names : List (List ℕ)) → Extends t u → HasTypes t names → HasTypes u names
has_types t u [] e h = tt
has_types t u (n ∷ ns) e h = (has_type t u n e h.0, has_types t u ns e h.1)

types_stay : (t u : Tables) (names : List (List ℕ)) → Extends t u → HasTypes t names → map (type_index u) names ≡ map (type_index t) names
types_stay t u [] e h = refl
types_stay t u (n ∷ ns) e h = rw (type_stays t u n e h.0, types_stay t u ns e h.1) refl

pub proto_row_stays : (t u : Tables) (params : List (List ℕ)) (ret : List ℕ) → Extends t u → HasString t (shorty params ret) → HasType t ret → HasTypes t params → proto_row u params ret ≡ proto_row t params ret
unfolding proto_row
proto_row_stays t u params ret e s r p = rw (string_stays t u (shorty params ret) e s, type_stays t u ret e r, types_stay t u params e p) refl

pub has_proto : (t u : Tables) (params : List (List ℕ)) (ret : List ℕ) → Extends t u → HasProto t params ret → HasProto u params ret
has_proto t u params ret e h = record {
  short = has_string t u (shorty params ret) e h.short;
  ret_there = has_type t u ret e h.ret_there;
  params_there = has_types t u params e h.params_there;
  row = rw (proto_row_stays t u params ret e h.short h.ret_there h.params_there) (placed_more list_cmp t.protos u.protos (proto_row t params ret) e.protos h.row);
}

pub proto_index_stays : (t u : Tables) (params : List (List ℕ)) (ret : List ℕ) → Extends t u → HasProto t params ret → proto_index u params ret ≡ proto_index t params ret
unfolding proto_index
proto_index_stays t u params ret e h =
    rw (proto_row_stays t u params ret e h.short h.ret_there h.params_there) (place_stays list_cmp t.protos u.protos (proto_row t params ret) e.protos h.row)
