-- A row of the classes that is read stands there, but for its class data, and one that stands there is read.
use Rattle.std.proofs.Common.{◌≡◌, inl, inr, ℕ, zero, suc, ◌+◌, ◌<◌, ◌≤◌, true, false, List, ◌∷◌, length, Option, Some, None, Ok, refl, sym, ap, subst, ◌∙◌, arith}
use Rattle.std.proofs.lemmas.Bool.{ltb-true, lt-ltb, eq-eqb}
use Rattle.std.proofs.lemmas.Bool.Decides.{nat_tests, eqb_tells}
use Rattle.std.specs.Prelude.{nat_lt, nat_eq, sum_by, ◌||◌}
use Rattle.vet_base.specs.Numbers.{u4}
use Rattle.vet_base.specs.Script.{Script, Value, ◌>>=◌, run, rows}
use Rattle.dex_tables.specs.declared.fault.Fault.{Fault}
use Rattle.dex_tables.specs.declared.fault.Table.TheVariants as tables
use Rattle.dex_reader.specs.declared.class_defs.ClassRow.{ClassRow}
use Rattle.dex_tables.specs.declared.header.Section.{Section}
use Rattle.dex_tables.specs.declared.place.Place.{Place}
use Rattle.dex_tables.specs.TypeLists.{place, type_list_at}
use Rattle.dex_reader.specs.ClassDefs.{superclass_of, superclass_at, data_offset_at, class_row_of, class_row, class_rows_at}
use Rattle.dex_tables.specs.Sequences.{Is4, RowsStand}
use Rattle.dex_tables.specs.TablesStand.{MaybeTypeList}
use Rattle.dex_reader.specs.ClassesStand.{IsSuperclass}
use Rattle.dex_tables.proofs.Readings.{there_ok, follow_read, OneRead}
use Rattle.dex_tables.proofs.Numbers.{u4_is, u4_behind, u4_within, four_there}
use Rattle.dex_tables.proofs.RunningTotals.{number_adds, rows_from_follow}
use Rattle.dex_tables.proofs.TypeListReadings.{maybe_list_is, maybe_list_again}
use Rattle.vet_base.proofs.Runs.{bind_ok, test_ok, bind_runs, value_is}

-- the superclass of a row
no_index : (index types : ℕ) → (index ≡ 4294967295 → ⊥) → (nat_eq index 4294967295 || nat_lt index types) ≡ true → index < types
no_index index types other e = grind (arith, nat_tests)

other_eq : (index : ℕ) → (index ≡ 4294967295 → ⊥) → nat_eq index 4294967295 ≡ false
other_eq index other = grind (arith, nat_tests)

superclass_is : (file : List ℕ) (types table row at : ℕ) (x : Option ℕ × ℕ) → run (superclass_at file types table row at) ≡ Ok x
    → (index : ℕ) × Is4 file at index × IsSuperclass types index x.0 × (x.1 ≡ at + 4)
unfolding superclass_at superclass_of
superclass_is file types table row at x e =
    let a = there_ok (u4 file at) _ _ _ _ e in
    let b = test_ok (nat_eq a.0.0 4294967295 || nat_lt a.0.0 types) _ _ _ a.2 in
    let here = u4_is file at a.0 a.1 in
    subst (λ (p : Option ℕ × ℕ). (index : ℕ) × Is4 file at index × IsSuperclass types index p.0 × (p.1 ≡ at + 4)) (value_is _ _ b.1)
    (elim (eqb_tells a.0.0 4294967295) [
      | inl none ↦ (a.0.0, here.0, (rw none.0 none.1), here.1)
      | inr some ↦ (a.0.0, here.0, (rw some.0 (refl, no_index a.0.0 types some.1 b.0, some.1)), here.1)
    ])

superclass_again : (file : List ℕ) (types table row at index : ℕ) (x : Option ℕ) → Is4 file at index → IsSuperclass types index x → run (superclass_at file types table row at) ≡ Ok (x, at + 4)
unfolding superclass_at superclass_of
superclass_again file types table row at index None here is =
    let u : u4 file at ≡ Some (index, at + 4) = here in
    let none : nat_eq index 4294967295 ≡ true = eq-eqb index 4294967295 is in
    rw (u, none) refl
superclass_again file types table row at index (Some above) here is =
    let u : u4 file at ≡ Some (index, at + 4) = here in
    let same : above ≡ index = is.0 in
    let some : nat_eq index 4294967295 ≡ false = other_eq index is.2 in
    rw (u, some, lt-ltb index types is.1, same) refl

-- the offset of the class data, which the four last fields hold
data_offset_is : (file : List ℕ) (table at : ℕ) (x : ℕ × ℕ) → run (data_offset_at file table at) ≡ Ok x → Is4 file (at + 8) x.0 × (x.1 ≡ at + 16) × (at + 16 ≤ length file)
unfolding data_offset_at
data_offset_is file table at x e =
    let a = there_ok (u4 file at) _ _ _ _ e in
    let b = there_ok (u4 file a.0.1) _ _ _ _ a.2 in
    let c = there_ok (u4 file b.0.1) _ _ _ _ b.2 in
    let d = there_ok (u4 file c.0.1) _ _ _ _ c.2 in
    let source = u4_is file at a.0 a.1 in
    let annotations = u4_behind file (at + 4) a.0.1 b.0 b.1 source.1 in
    let class_data = u4_behind file (at + 8) b.0.1 c.0 c.1 (let k : b.0.1 ≡ at + 4 + 4 = annotations.1 in omega arith) in
    let statics = u4_behind file (at + 12) c.0.1 d.0 d.1 (let k : c.0.1 ≡ at + 8 + 4 = class_data.1 in omega arith) in
    let end : d.0.1 ≡ at + 12 + 4 = statics.1 in
    let within : at + 12 + 4 ≤ length file = u4_within file (at + 12) d.0.0 statics.0 in
    let last : d.0.1 ≡ at + 16 = omega arith in
    let inside : at + 16 ≤ length file = omega arith in
    subst (λ (p : ℕ × ℕ). Is4 file (at + 8) p.0 × (p.1 ≡ at + 16) × (at + 16 ≤ length file)) (value_is _ _ d.2) (class_data.0, last, inside)

data_offset_again : (file : List ℕ) (table at x : ℕ) → Is4 file (at + 8) x → at + 16 ≤ length file → run (data_offset_at file table at) ≡ Ok (x, at + 16)
unfolding data_offset_at
data_offset_again file table at x is within =
    let a = four_there file at (omega arith) in
    let b = four_there file (at + 4) (omega arith) in
    let d = four_there file (at + 12) (omega arith) in
    let source : u4 file at ≡ Some (a.0, at + 4) = a.1 in
    let annotations : u4 file (at + 4) ≡ Some (b.0, at + 8) = b.1 ∙ ap (λ (o : ℕ). Some (b.0, o)) (omega arith) in
    let class_data : u4 file (at + 8) ≡ Some (x, at + 12) = is ∙ ap (λ (o : ℕ). Some (x, o)) (omega arith) in
    let statics : u4 file (at + 12) ≡ Some (d.0, at + 16) = d.1 ∙ ap (λ (o : ℕ). Some (d.0, o)) (omega arith) in
    rw (source, annotations, class_data, statics) refl

-- what a row says of its class, but for the class data
pub record IsHead (file : List ℕ) (types at : ℕ) (row : ClassRow) : Type 0 where
  pub index : ℕ
  pub list : ℕ
  pub class_is : Is4 file at row.class
  pub class_below : row.class < types
  pub flags_is : Is4 file (at + 4) row.flags
  pub index_is : Is4 file (at + 8) index
  pub superclass : IsSuperclass types index row.superclass
  pub list_is : Is4 file (at + 12) list
  pub interfaces : MaybeTypeList file types list row.interfaces
  pub class_data_is : Is4 file (at + 24) row.class_data
  pub whole : at + 32 ≤ length file

unfoldable pub in_row : ClassRow → ℕ
in_row row = length row.interfaces

-- a row by what stands in it
head_from : (file : List ℕ) (types table i at t : ℕ) (a c : ℕ × ℕ) (d : Option ℕ × ℕ) (f : ℕ × ℕ) (g : List ℕ × ℕ) (k : ℕ × ℕ) → t ≤ 4000000
    → u4 file at ≡ Some a → a.0 < types → u4 file a.1 ≡ Some c → run (superclass_at file types table i c.1) ≡ Ok d → u4 file d.1 ≡ Some f
    → run (type_list_at file types tables.ClassDefs i f.0 t) ≡ Ok g → run (data_offset_at file table f.1) ≡ Ok k
    → OneRead (λ a b. a + b) (λ a. a ≤ 4000000) (λ at row adds to. IsHead file types at row × (adds ≡ in_row row) × (to ≡ at + 32)) place at t (class_row_of i a.0 c.0 d.0 g.0 k.0) (place k.1 g.1)
unfolding in_row
head_from file types table i at t a c d f g k fit class-read below flags-read above-read list-read interfaces-read offset-read =
    let class = u4_is file at a class-read in
    let flags = u4_behind file (at + 4) a.1 c flags-read class.1 in
    let flags-end : c.1 ≡ at + 8 = (let o : c.1 ≡ at + 4 + 4 = flags.1 in omega arith) in
    let above = superclass_is file types table i c.1 d above-read in
    let above-end : d.1 ≡ at + 12 = (let o : d.1 ≡ c.1 + 4 = above.3 in omega arith) in
    let list = u4_behind file (at + 12) d.1 f list-read above-end in
    let list-end : f.1 ≡ at + 16 = (let o : f.1 ≡ at + 12 + 4 = list.1 in omega arith) in
    let interfaces = maybe_list_is file types tables.ClassDefs i f.0 t g.0 g.1 fit interfaces-read in
    let offset = data_offset_is file table f.1 k offset-read in
    let end : k.1 ≡ at + 32 = (let o : k.1 ≡ f.1 + 16 = offset.1 in omega arith) in
    let data-at : f.1 + 8 ≡ at + 24 = omega arith in
    let within : at + 32 ≤ length file = (let o : f.1 + 16 ≤ length file = offset.2 in let p : at + 16 + 16 ≤ length file = subst (λ (u : ℕ). u + 16 ≤ length file) list-end o in omega (arith, p)) in
    let total : g.1 ≡ t + length g.0 = interfaces.1 in
    let fits : t + length g.0 ≤ 4000000 = (let o : g.1 ≤ 4000000 = interfaces.2 in omega arith) in
    record {
      to = k.1;
      adds = length g.0;
      stands = (
        record {
          index = above.0;
          list = f.0;
          class_is = class.0;
          class_below = below;
          flags_is = flags.0;
          index_is = subst (λ (o : ℕ). Is4 file o above.0) flags-end above.1;
          superclass = above.2;
          list_is = list.0;
          interfaces = interfaces.0;
          class_data_is = subst (λ (o : ℕ). Is4 file o k.0) data-at offset.0;
          whole = within;
        },
        refl,
        end,
      );
      is = ap (λ (u : ℕ). place k.1 u) total;
      fits = fits;
    }

head_is : (file : List ℕ) (types table i at t : ℕ) (x : ClassRow) (s : Place) → t ≤ 4000000 → run (class_row file types table i (place at t)) ≡ Ok (x, s)
    → OneRead (λ a b. a + b) (λ a. a ≤ 4000000) (λ at row adds to. IsHead file types at row × (adds ≡ in_row row) × (to ≡ at + 32)) place at t x s
unfolding class_row
head_is file types table i at t x s fit e =
    let a = there_ok (u4 file at) _ _ _ _ e in
    let b = test_ok (nat_lt a.0.0 types) _ _ _ a.2 in
    let c = there_ok (u4 file a.0.1) _ _ _ _ b.1 in
    let d = bind_ok (superclass_at file types table i c.0.1) _ _ c.2 in
    let f = there_ok (u4 file d.0.1) _ _ _ _ d.2 in
    let g = bind_ok (type_list_at file types tables.ClassDefs i f.0.0 t) _ _ f.2 in
    let h = test_ok (nat_lt i 65536) _ _ _ g.2 in
    let k = bind_ok (data_offset_at file table f.0.1) _ _ h.1 in
    subst (λ (p : ClassRow × Place). OneRead (λ a b. a + b) (λ a. a ≤ 4000000) (λ at row adds to. IsHead file types at row × (adds ≡ in_row row) × (to ≡ at + 32)) place at t p.0 p.1) (value_is _ _ k.2)
    (head_from file types table i at t a.0 c.0 d.0 f.0 g.0 k.0 fit a.1 (ltb-true _ _ b.0) c.1 d.1 f.1 g.1 k.1)

pub head_again : (file : List ℕ) (types table i at t : ℕ) (x : ClassRow) → IsHead file types at x → x.row ≡ i → t + length x.interfaces ≤ 4000000 → i < 65536
    → run (class_row file types table i (place at t)) ≡ Ok (x, place (at + 32) (t + length x.interfaces))
unfolding class_row
head_again file types table i at t x is row-is fit under =
    let class : u4 file at ≡ Some (x.class, at + 4) = is.class_is in
    let flags : u4 file (at + 4) ≡ Some (x.flags, at + 8) = is.flags_is ∙ ap (λ (o : ℕ). Some (x.flags, o)) (omega arith) in
    let above : run (superclass_at file types table i (at + 8)) ≡ Ok (x.superclass, at + 12) = superclass_again file types table i (at + 8) is.index x.superclass is.index_is is.superclass ∙ ap (λ (o : ℕ). Ok (x.superclass, o)) (omega arith) in
    let list : u4 file (at + 12) ≡ Some (is.list, at + 16) = is.list_is ∙ ap (λ (o : ℕ). Some (is.list, o)) (omega arith) in
    let interfaces = maybe_list_again file types tables.ClassDefs i is.list t x.interfaces is.interfaces fit in
    let data-at : at + 24 ≡ at + 16 + 8 = omega arith in
    let within : at + 32 ≤ length file = is.whole in
    let offset : run (data_offset_at file table (at + 16)) ≡ Ok (x.class_data, at + 32) = data_offset_again file table (at + 16) x.class_data (subst (λ (o : ℕ). Is4 file o x.class_data) data-at is.class_data_is) (omega arith) ∙ ap (λ (o : ℕ). Ok (x.class_data, o)) (omega arith) in
    rw (class, lt-ltb x.class types is.class_below, flags)
    (bind_runs (superclass_at file types table i (at + 8)) _ _ _ above
    (rw list (bind_runs (type_list_at file types tables.ClassDefs i is.list t) _ _ _ interfaces
    (rw (lt-ltb i 65536 under) (bind_runs (data_offset_at file table (at + 16)) _ _ _ offset
    (ap (λ (n : ℕ). Ok (class_row_of n x.class x.flags x.superclass x.interfaces x.class_data, place (at + 32) (t + length x.interfaces))) (sym row-is)))))))

-- how many rows there may be
numbered : {X S : Type 0} (limit : ℕ) (row : ℕ → S → Script Fault (X × S)) → ((i : ℕ) (s : S) (x : X × S) → run (row i s) ≡ Ok x → i < limit)
    → (n i : ℕ) (s : S) (r : List X × S) → i ≤ limit → run (rows n i row s) ≡ Ok r → i + n ≤ limit
unfolding rows
numbered limit row one zero i s r le e = omega arith
numbered limit row one (suc n) i s r le e =
    let a = bind_ok (row i s) (λ first. rows n (i + 1) row first.1 >>= λ others. Value (first.0 ∷ others.0, others.1)) r e in
    let b = bind_ok (rows n (i + 1) row a.0.1) (λ others. Value (a.0.0 ∷ others.0, others.1)) r a.2 in
    let under : i < limit = one i s a.0 a.1 in
    let rest : i + 1 + n ≤ limit = numbered limit row one n (i + 1) a.0.1 b.0 (omega arith) b.1 in
    omega (arith, rest)

-- the rows of the classes
pub record RowsRead (file : List ℕ) (types : ℕ) (table : Section) (t : ℕ) (rs : List ClassRow) : Type 0 where
  pub count : length rs ≡ table.size
  pub stand : RowsStand (IsHead file types) 32 table.at rs
  pub limit : t + sum_by in_row rs ≤ 4000000
  pub rows_limit : table.size ≤ 65536

below_limit : (file : List ℕ) (types table i : ℕ) (s : Place) (x : ClassRow × Place) → run (class_row file types table i s) ≡ Ok x → i < 65536
unfolding class_row
below_limit file types table i s x e =
    let a = there_ok (u4 file s.at) _ _ _ _ e in
    let b = test_ok (nat_lt a.0.0 types) _ _ _ a.2 in
    let c = there_ok (u4 file a.0.1) _ _ _ _ b.1 in
    let d = bind_ok (superclass_at file types table i c.0.1) _ _ c.2 in
    let f = there_ok (u4 file d.0.1) _ _ _ _ d.2 in
    let g = bind_ok (type_list_at file types tables.ClassDefs i f.0.0 s.total) _ _ f.2 in
    let h = test_ok (nat_lt i 65536) _ _ _ g.2 in
    ltb-true _ _ h.0

pub class_rows_are : (file : List ℕ) (types : ℕ) (table : Section) (t : ℕ) (rs : List ClassRow) (s : Place) → t ≤ 4000000 → run (class_rows_at file types table t) ≡ Ok (rs, s) → RowsRead file types table t rs
unfolding class_rows_at
class_rows_are file types table t rs s fit e =
    let read = follow_read 0 (λ a b. a + b) (λ a. a ≤ 4000000) (λ at row adds to. IsHead file types at row × (adds ≡ in_row row) × (to ≡ at + 32)) place (class_row file types table.at) (number_adds 4000000)
    (λ i q t x s fit e. head_is file types table.at i q t x s fit e) table.size 0 table.at t rs s fit e in
    let rows = rows_from_follow (IsHead file types) in_row 32 table.at rs read.adds read.to read.stand in
    let adds : read.adds ≡ sum_by in_row rs = rows.1 in
    let fits : t + read.adds ≤ 4000000 = read.fits in
    let many : 0 + table.size ≤ 65536 = numbered 65536 (class_row file types table.at) (λ i s x e. below_limit file types table.at i s x e) table.size 0 (place table.at t) (rs, s) (omega arith) e in
    record { count = read.count; stand = rows.0; limit = omega arith; rows_limit = omega arith }
