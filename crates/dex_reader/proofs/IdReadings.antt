-- The id tables that are read lie within the file and stand there, and those that stand there are read.
use Rattle.std.proofs.Common.{◌≡◌, ◌⊎◌, inl, inr, ℕ, ◌+◌, ◌*◌, ◌≤◌, true, List, length, Ok, refl, ap, subst}
use Rattle.std.proofs.lemmas.Bool.{leb-true, le-leb, eq-eqb}
use Rattle.std.proofs.lemmas.Bool.Decides.{eqb_tells}
use Rattle.std.proofs.Math.Bool.{or-true}
use Rattle.std.specs.Prelude.{nat_le, nat_eq, sum_by, ◌||◌}
use Rattle.vet_base.specs.Script.{run}
use Rattle.dex_tables.specs.declared.dex.Dex.{Dex}
use Rattle.dex_tables.specs.declared.dex.FieldId.{FieldId}
use Rattle.dex_tables.specs.declared.dex.MethodRow.{MethodRow}
use Rattle.dex_tables.specs.declared.header.Header.{Header}
use Rattle.dex_tables.specs.declared.place.Sizes.{Sizes}
use Rattle.dex_tables.specs.declared.place.Totals.{Totals}
use Rattle.dex_reader.specs.declared.reading.Ids.{Ids}
use Rattle.dex_tables.specs.Parts.{table_test}
use Rattle.dex_tables.specs.Tables.{strings_at, types_at, protos_at, fields_at, methods_at}
use Rattle.dex_reader.specs.Whole.{names_at, member_ids_at, ids_at}
use Rattle.dex_tables.specs.TablesStand.{TableStands, IsName, IsType, IsProto, IsField, IsMethod}
use Rattle.dex_reader.specs.Dex.{params_of, HasTables}
use Rattle.dex_tables.proofs.TableReadings.{strings_are, protos_are, types_are, fields_are, methods_are, strings_again, protos_again, types_again, fields_again, methods_again}
use Rattle.vet_base.proofs.Runs.{bind_ok, test_ok, bind_runs, value_is}

one_of_both : (size end len : ℕ) → (nat_eq size 0 || nat_le end len) ≡ true → (size ≡ 0) ⊎ (end ≤ len)
one_of_both size end len e = elim (eqb_tells size 0) [
  | inl none ↦ inl none.1
  | inr some ↦ inr (leb-true end len (rw some.0 at e))
]

both_of_one : (size end len : ℕ) → (size ≡ 0) ⊎ (end ≤ len) → (nat_eq size 0 || nat_le end len) ≡ true
both_of_one size end len (inl none) = rw (eq-eqb size 0 none) refl
both_of_one size end len (inr le) = rw (le-leb end len le) (or-true (nat_eq size 0))

-- a table lies within the file, or has no rows
pub table_is : (file : List ℕ) (size at width : ℕ) (x : Unit {0}) → run (table_test file size at width) ≡ Ok x → (size ≡ 0) ⊎ (at + size * width ≤ length file)
unfolding table_test
table_is file size at width x e =
    let a = test_ok (nat_eq size 0 || nat_le (at + size * width) (length file)) _ _ _ e in
    one_of_both size (at + size * width) (length file) a.0

pub table_again : (file : List ℕ) (size at width : ℕ) → (size ≡ 0) ⊎ (at + size * width ≤ length file) → run (table_test file size at width) ≡ Ok tt
unfolding table_test
table_again file size at width within = rw (both_of_one size (at + size * width) (length file) within) refl

pub record IdsRead (file : List ℕ) (header : Header) (sizes : Sizes) (ids : Ids) : Type 0 where
  pub strings : TableStands (IsName file) 4 file header.strings ids.strings
  pub types : TableStands (IsType file sizes) 4 file header.types ids.types
  pub protos : TableStands (IsProto file sizes) 12 file header.protos ids.protos
  pub fields : TableStands (IsField file sizes) 8 file header.fields ids.fields
  pub methods : TableStands (IsMethod file sizes) 8 file header.methods ids.methods
  pub names : sum_by length ids.strings ≤ 33554432
  pub listed_is : ids.listed ≡ sum_by params_of ids.protos
  pub listed : ids.listed ≤ 4000000

record NamesRead (file : List ℕ) (header : Header) (sizes : Sizes) (names : List (List ℕ) × List ℕ) : Type 0 where
  strings : TableStands (IsName file) 4 file header.strings names.0
  types : TableStands (IsType file sizes) 4 file header.types names.1
  limit : sum_by length names.0 ≤ 33554432

names_are : (file : List ℕ) (header : Header) (sizes : Sizes) (names : List (List ℕ) × List ℕ) → run (names_at file header sizes) ≡ Ok names → NamesRead file header sizes names
unfolding names_at
names_are file header sizes names e =
    let a = bind_ok (table_test file header.strings.size header.strings.at 4) _ _ e in
    let b = bind_ok (strings_at file header.strings) _ _ a.2 in
    let c = bind_ok (table_test file header.types.size header.types.at 4) _ _ b.2 in
    let d = bind_ok (types_at file sizes header.types) _ _ c.2 in
    let strings = strings_are file header.strings b.0.0 b.0.1 b.1 in
    let types = types_are file sizes header.types d.0.0 d.0.1 d.1 in
    subst (λ (x : List (List ℕ) × List ℕ). NamesRead file header sizes x) (value_is _ _ d.2)
    (record {
      strings = record { count = strings.count; within = table_is file header.strings.size header.strings.at 4 a.0 a.1; stand = strings.stand };
      types = record { count = types.0; within = table_is file header.types.size header.types.at 4 c.0 c.1; stand = types.1 };
      limit = strings.limit;
    })

record MemberIdsRead (file : List ℕ) (header : Header) (sizes : Sizes) (members : List FieldId × List MethodRow) : Type 0 where
  fields : TableStands (IsField file sizes) 8 file header.fields members.0
  methods : TableStands (IsMethod file sizes) 8 file header.methods members.1

member_ids_are : (file : List ℕ) (header : Header) (sizes : Sizes) (members : List FieldId × List MethodRow) → run (member_ids_at file header sizes) ≡ Ok members → MemberIdsRead file header sizes members
unfolding member_ids_at
member_ids_are file header sizes members e =
    let a = bind_ok (table_test file header.fields.size header.fields.at 8) _ _ e in
    let b = bind_ok (fields_at file sizes header.fields) _ _ a.2 in
    let c = bind_ok (table_test file header.methods.size header.methods.at 8) _ _ b.2 in
    let d = bind_ok (methods_at file sizes header.methods) _ _ c.2 in
    let fields = fields_are file sizes header.fields b.0.0 b.0.1 b.1 in
    let methods = methods_are file sizes header.methods d.0.0 d.0.1 d.1 in
    subst (λ (x : List FieldId × List MethodRow). MemberIdsRead file header sizes x) (value_is _ _ d.2)
    (record {
      fields = record { count = fields.0; within = table_is file header.fields.size header.fields.at 8 a.0 a.1; stand = fields.1 };
      methods = record { count = methods.0; within = table_is file header.methods.size header.methods.at 8 c.0 c.1; stand = methods.1 };
    })

pub ids_are : (file : List ℕ) (header : Header) (sizes : Sizes) (ids : Ids) → run (ids_at file header sizes) ≡ Ok ids → IdsRead file header sizes ids
unfolding ids_at
ids_are file header sizes ids e =
    let a = bind_ok (names_at file header sizes) _ _ e in
    let b = bind_ok (table_test file header.protos.size header.protos.at 12) _ _ a.2 in
    let c = bind_ok (protos_at file sizes header.protos 0) _ _ b.2 in
    let d = bind_ok (member_ids_at file header sizes) _ _ c.2 in
    let names = names_are file header sizes a.0 a.1 in
    let protos = protos_are file sizes header.protos c.0.0 c.0.1 c.1 in
    let members = member_ids_are file header sizes d.0 d.1 in
    subst (λ (x : Ids). IdsRead file header sizes x) (value_is _ _ d.2)
    (record {
      strings = names.strings;
      types = names.types;
      protos = record { count = protos.count; within = table_is file header.protos.size header.protos.at 12 b.0 b.1; stand = protos.stand };
      fields = members.fields;
      methods = members.methods;
      names = names.limit;
      listed_is = protos.is;
      listed = protos.limit;
    })

unfoldable pub made_ids : Dex → ℕ → Ids
made_ids dex listed = record { strings = dex.strings; types = dex.types; protos = dex.protos; fields = dex.fields; methods = dex.methods; listed = listed }

names_again : (file : List ℕ) (header : Header) (sizes : Sizes) (dex : Dex) (totals : Totals) → HasTables file header sizes dex totals → sum_by length dex.strings ≤ 33554432
    → run (names_at file header sizes) ≡ Ok (dex.strings, dex.types)
unfolding names_at
names_again file header sizes dex totals has names =
    let strings = strings_again file header.strings dex.strings (record { count = has.strings.count; stand = has.strings.stand; limit = names }) in
    let types = types_again file sizes header.types dex.types has.types.count has.types.stand in
    bind_runs (table_test file header.strings.size header.strings.at 4) _ _ _ (table_again file header.strings.size header.strings.at 4 has.strings.within)
    (bind_runs (strings_at file header.strings) _ _ _ strings.1
    (bind_runs (table_test file header.types.size header.types.at 4) _ _ _ (table_again file header.types.size header.types.at 4 has.types.within)
    (bind_runs (types_at file sizes header.types) _ _ _ types.1 refl)))

member_ids_again : (file : List ℕ) (header : Header) (sizes : Sizes) (dex : Dex) (totals : Totals) → HasTables file header sizes dex totals
    → run (member_ids_at file header sizes) ≡ Ok (dex.fields, dex.methods)
unfolding member_ids_at
member_ids_again file header sizes dex totals has =
    let fields = fields_again file sizes header.fields dex.fields has.fields.count has.fields.stand in
    let methods = methods_again file sizes header.methods dex.methods has.methods.count has.methods.stand in
    bind_runs (table_test file header.fields.size header.fields.at 8) _ _ _ (table_again file header.fields.size header.fields.at 8 has.fields.within)
    (bind_runs (fields_at file sizes header.fields) _ _ _ fields.1
    (bind_runs (table_test file header.methods.size header.methods.at 8) _ _ _ (table_again file header.methods.size header.methods.at 8 has.methods.within)
    (bind_runs (methods_at file sizes header.methods) _ _ _ methods.1 refl)))

pub ids_again : (file : List ℕ) (header : Header) (sizes : Sizes) (dex : Dex) (totals : Totals) → HasTables file header sizes dex totals → sum_by length dex.strings ≤ 33554432 → sum_by params_of dex.protos ≤ 4000000
    → run (ids_at file header sizes) ≡ Ok (made_ids dex (sum_by params_of dex.protos))
unfolding ids_at made_ids
ids_again file header sizes dex totals has names listed =
    let protos = protos_again file sizes header.protos dex.protos (sum_by params_of dex.protos) (record { count = has.protos.count; stand = has.protos.stand; is = refl; limit = listed }) in
    bind_runs (names_at file header sizes) _ _ _ (names_again file header sizes dex totals has names)
    (bind_runs (table_test file header.protos.size header.protos.at 12) _ _ _ (table_again file header.protos.size header.protos.at 12 has.protos.within)
    (bind_runs (protos_at file sizes header.protos 0) _ _ _ protos.1
    (bind_runs (member_ids_at file header sizes) _ _ _ (member_ids_again file header sizes dex totals has)
    (ap (λ (n : ℕ). Ok (made_ids dex n)) protos.2))))
