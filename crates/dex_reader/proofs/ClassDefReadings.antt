-- The rows of the classes and their class data that are read make the classes that stand there, and those are read so.
use Rattle.std.proofs.Common.{◌≡◌, ℕ, suc, ◌+◌, ◌<◌, ◌≤◌, List, [], ◌∷◌, length, Option, Ok, refl, sym, ap, subst, ◌∙◌, arith}
use Rattle.std.proofs.lemmas.List.Sums.{sum_by-cons}
use Rattle.std.specs.Prelude.{sum_by}
use Rattle.vet_base.specs.Script.{run, rows, walk}
use Rattle.dex_tables.specs.declared.dex.ClassDef.{ClassDef}
use Rattle.dex_reader.specs.declared.class_defs.ClassRow.{ClassRow}
use Rattle.dex_tables.specs.declared.place.Place.{Place}
use Rattle.dex_tables.specs.declared.place.Sizes.{Sizes}
use Rattle.dex_tables.specs.declared.place.Totals.{Totals}
use Rattle.dex_tables.specs.TypeLists.{place}
use Rattle.dex_reader.specs.ClassDefs.{class_row_of, class_row}
use Rattle.dex_reader.specs.ClassData.{class_def_of, class_data_at, class_of}
use Rattle.dex_tables.specs.Sequences.{Is4, RowsStand, Follow}
use Rattle.dex_tables.specs.TablesStand.{MaybeTypeList}
use Rattle.dex_reader.specs.ClassesStand.{MaybeClassData, IsSuperclass, IsClass, IsClassRow}
use Rattle.dex_reader.specs.Dex.{interfaces_of}
use Rattle.dex_tables.specs.Totals.{no_totals, plus}
use Rattle.dex_reader.proofs.ClassReadings.{lists_of, maybe_data_is, maybe_data_again}
use Rattle.dex_tables.proofs.RunningTotals.{WithinTotals, totals_add}
use Rattle.dex_reader.proofs.ClassRowReadings.{in_row, IsHead, head_again}
use Rattle.vet_base.proofs.Runs.{bind_ok, bind_runs, value_is}

-- The classes of the rows, each with its class data.
abbrev pub Paired : List ℕ → Sizes → List ClassRow → List ClassDef → Totals → Type 0
Paired file sizes [] [] adds = adds ≡ no_totals
Paired file sizes [] (c ∷ classes) adds = ⊥
Paired file sizes (r ∷ rows) [] adds = ⊥
Paired file sizes (r ∷ rows) (c ∷ classes) adds = (one : Totals) × (rest : Totals) × (c ≡ class_def_of r (lists_of c)) × MaybeClassData file sizes r.class_data c one × Paired file sizes rows classes rest × (adds ≡ plus one rest)

pub record ClassesRead (file : List ℕ) (sizes : Sizes) (t : Totals) (rows : List ClassRow) (xs : List ClassDef) (s : Totals) : Type 0 where
  pub adds : Totals
  pub paired : Paired file sizes rows xs adds
  pub is : s ≡ plus t adds
  pub fits : WithinTotals (plus t adds)

record ClassRead (file : List ℕ) (sizes : Sizes) (t : Totals) (row : ClassRow) (x : ClassDef) (s : Totals) : Type 0 where
  adds : Totals
  same : x ≡ class_def_of row (lists_of x)
  stands : MaybeClassData file sizes row.class_data x adds
  is : s ≡ plus t adds
  fits : WithinTotals (plus t adds)

class_is : (file : List ℕ) (sizes : Sizes) (row : ClassRow) (t : Totals) (x : ClassDef) (s : Totals) → WithinTotals t → run (class_of file sizes row t) ≡ Ok (x, s) → ClassRead file sizes t row x s
unfolding class_of lists_of
class_is file sizes row t x s fit e =
    let a = bind_ok (class_data_at file sizes row.row row.class_data t) _ _ e in
    let read = maybe_data_is file sizes row.row row.class_data t row a.0.0 a.0.1 fit a.1 in
    subst (λ (p : ClassDef × Totals). ClassRead file sizes t row p.0 p.1) (value_is _ _ a.2)
    (record { adds = read.adds; same = refl; stands = read.stands; is = read.is; fits = read.fits })

class_again : (file : List ℕ) (sizes : Sizes) (row : ClassRow) (t : Totals) (x : ClassDef) (adds : Totals) → x ≡ class_def_of row (lists_of x) → MaybeClassData file sizes row.class_data x adds → WithinTotals (plus t adds)
    → run (class_of file sizes row t) ≡ Ok (x, plus t adds)
unfolding class_of
class_again file sizes row t x adds same has fit =
    let read = maybe_data_again file sizes row.row row.class_data t x adds has fit in
    bind_runs (class_data_at file sizes row.row row.class_data t) _ _ _ read (ap (λ (c : ClassDef). Ok (c, plus t adds)) (sym same))

pub classes_are : (file : List ℕ) (sizes : Sizes) (rs : List ClassRow) (t : Totals) (xs : List ClassDef) (s : Totals) → WithinTotals t → run (walk (class_of file sizes) rs t) ≡ Ok (xs, s) → ClassesRead file sizes t rs xs s
unfolding walk
classes_are file sizes [] t xs s fit e =
    let none : t ≡ plus t no_totals = sym (totals_add.right_none t) in
    subst (λ (p : List ClassDef × Totals). ClassesRead file sizes t [] p.0 p.1) (value_is ([], t) (xs, s) e) (record { adds = no_totals; paired = refl; is = none; fits = subst WithinTotals none fit })
classes_are file sizes (r ∷ rs) t xs s fit e =
    let a = bind_ok (class_of file sizes r t) _ _ e in
    let one = class_is file sizes r t a.0.0 a.0.1 fit a.1 in
    let c = bind_ok (walk (class_of file sizes) rs a.0.1) _ _ a.2 in
    let after : run (walk (class_of file sizes) rs (plus t one.adds)) ≡ Ok (c.0.0, c.0.1) = subst (λ (u : Totals). run (walk (class_of file sizes) rs u) ≡ Ok (c.0.0, c.0.1)) one.is c.1 in
    let rest = classes_are file sizes rs (plus t one.adds) c.0.0 c.0.1 one.fits after in
    let grouped = totals_add.regroup t one.adds rest.adds in
    subst (λ (p : List ClassDef × Totals). ClassesRead file sizes t (r ∷ rs) p.0 p.1) (value_is _ _ c.2)
    (record { adds = plus one.adds rest.adds; paired = (one.adds, rest.adds, one.same, one.stands, rest.paired, refl); is = rest.is ∙ grouped; fits = subst WithinTotals grouped rest.fits })

pub classes_again : (file : List ℕ) (sizes : Sizes) (rs : List ClassRow) (t : Totals) (xs : List ClassDef) (adds : Totals) → Paired file sizes rs xs adds → WithinTotals (plus t adds)
    → run (walk (class_of file sizes) rs t) ≡ Ok (xs, plus t adds)
unfolding walk
classes_again file sizes [] t [] adds paired fit = ap (λ (u : Totals). Ok ([], u)) (sym (totals_add.right_none t) ∙ ap (λ (u : Totals). plus t u) (sym paired))
classes_again file sizes [] t (x ∷ xs) adds paired fit = absurd paired
classes_again file sizes (r ∷ rs) t [] adds paired fit = absurd paired
classes_again file sizes (r ∷ rs) t (x ∷ xs) adds paired fit =
    let grouped : plus (plus t paired.0) paired.1 ≡ plus t adds = totals_add.regroup t paired.0 paired.1 ∙ ap (λ (u : Totals). plus t u) (sym paired.5) in
    let fit-all : WithinTotals (plus (plus t paired.0) paired.1) = subst WithinTotals (sym grouped) fit in
    let one = class_again file sizes r t x paired.0 paired.2 paired.3 (totals_add.smaller (plus t paired.0) paired.1 fit-all) in
    let rest = classes_again file sizes rs (plus t paired.0) xs paired.1 paired.4 fit-all in
    bind_runs (class_of file sizes r t) _ _ _ one
    (bind_runs (walk (class_of file sizes) rs (plus t paired.0)) _ _ _ rest (ap (λ (u : Totals). Ok (x ∷ xs, u)) grouped))

-- The rows and their class data make the classes.
pub record Joined (file : List ℕ) (sizes : Sizes) (at : ℕ) (rows : List ClassRow) (xs : List ClassDef) (adds : Totals) : Type 0 where
  pub end : ℕ
  pub stand : Follow no_totals plus (IsClassRow file sizes) at xs adds end
  pub interfaces : sum_by in_row rows ≡ sum_by interfaces_of xs
  pub count : length rows ≡ length xs

whole_class : (file : List ℕ) (sizes : Sizes) (at : ℕ) (r : ClassRow) (c : ClassDef) (adds : Totals) → IsHead file sizes.types at r → c ≡ class_def_of r (lists_of c) → MaybeClassData file sizes r.class_data c adds → IsClass file sizes at c adds
unfolding lists_of
whole_class file sizes at r c adds head same has =
    let class : r.class ≡ c.class = ap (λ (u : ClassDef). u.class) (sym same) in
    let flags : r.flags ≡ c.flags = ap (λ (u : ClassDef). u.flags) (sym same) in
    let above : r.superclass ≡ c.superclass = ap (λ (u : ClassDef). u.superclass) (sym same) in
    let interfaces : r.interfaces ≡ c.interfaces = ap (λ (u : ClassDef). u.interfaces) (sym same) in
    record {
      index = head.index;
      list = head.list;
      class_data = r.class_data;
      class_is = subst (λ (n : ℕ). Is4 file at n) class head.class_is;
      class_below = subst (λ (n : ℕ). n < sizes.types) class head.class_below;
      flags_is = subst (λ (n : ℕ). Is4 file (at + 4) n) flags head.flags_is;
      index_is = head.index_is;
      superclass = subst (λ (o : Option ℕ). IsSuperclass sizes.types head.index o) above head.superclass;
      list_is = head.list_is;
      interfaces = subst (λ (ys : List ℕ). MaybeTypeList file sizes.types head.list ys) interfaces head.interfaces;
      class_data_is = head.class_data_is;
      whole = head.whole;
      members = has;
    }

pub join : (file : List ℕ) (sizes : Sizes) (at : ℕ) (rs : List ClassRow) (xs : List ClassDef) (adds : Totals) → RowsStand (IsHead file sizes.types) 32 at rs → Paired file sizes rs xs adds → Joined file sizes at rs xs adds
unfolding in_row lists_of
join file sizes at [] [] adds stand paired = record { end = at; stand = (refl, paired); interfaces = refl; count = refl }
join file sizes at [] (x ∷ xs) adds stand paired = absurd paired
join file sizes at (r ∷ rs) [] adds stand paired = absurd paired
join file sizes at (r ∷ rs) (x ∷ xs) adds stand paired =
    let rest = join file sizes (at + 32) rs xs paired.1 stand.1 paired.4 in
    let same : x ≡ class_def_of r (lists_of x) = paired.2 in
    let interfaces : length r.interfaces ≡ length x.interfaces = ap (λ (u : ClassDef). length u.interfaces) (sym same) in
    let left = sum_by-cons in_row r rs in
    let right = sum_by-cons interfaces_of x xs in
    let more : sum_by in_row rs ≡ sum_by interfaces_of xs = rest.interfaces in
    record {
      end = rest.end;
      stand = (at + 32, paired.0, paired.1, (whole_class file sizes at r x paired.0 stand.0 paired.2 paired.3, refl), rest.stand, paired.5);
      interfaces = left ∙ ap (λ (n : ℕ). n + sum_by in_row rs) interfaces ∙ ap (λ (n : ℕ). length x.interfaces + n) more ∙ sym right;
      count = ap (λ (n : ℕ). suc n) rest.count;
    }

-- the row that a class has
head_of : ℕ → ClassDef → ℕ → ClassRow
head_of i class class_data = class_row_of i class.class class.flags class.superclass class.interfaces class_data

pub record HeadsAgain (file : List ℕ) (sizes : Sizes) (table i at t : ℕ) (xs : List ClassDef) (adds : Totals) : Type 0 where
  pub heads : List ClassRow
  pub end : Place
  pub read : run (rows (length xs) i (class_row file sizes.types table) (place at t)) ≡ Ok (heads, end)
  pub paired : Paired file sizes heads xs adds

pub heads_again : (file : List ℕ) (sizes : Sizes) (table i at t : ℕ) (xs : List ClassDef) (adds : Totals) (end : ℕ) → Follow no_totals plus (IsClassRow file sizes) at xs adds end → t + sum_by interfaces_of xs ≤ 4000000 → i + length xs ≤ 65536
    → HeadsAgain file sizes table i at t xs adds
unfolding rows head_of lists_of
heads_again file sizes table i at t [] adds end stand fit below = record { heads = []; end = place at t; read = refl; paired = stand.1 }
heads_again file sizes table i at t (x ∷ xs) adds end stand fit below =
    let class = stand.3.0 in
    let row = head_of i x class.class_data in
    let cons : sum_by interfaces_of (x ∷ xs) ≡ length x.interfaces + sum_by interfaces_of xs = sum_by-cons interfaces_of x xs in
    let head : IsHead file sizes.types at row = record {
      index = class.index;
      list = class.list;
      class_is = class.class_is;
      class_below = class.class_below;
      flags_is = class.flags_is;
      index_is = class.index_is;
      superclass = class.superclass;
      list_is = class.list_is;
      interfaces = class.interfaces;
      class_data_is = class.class_data_is;
      whole = class.whole;
    } in
    let one = head_again file sizes.types table i at t row head refl (omega arith) (omega arith) in
    let next : stand.0 ≡ at + 32 = stand.3.1 in
    let others : Follow no_totals plus (IsClassRow file sizes) (at + 32) xs stand.2 end = subst (λ (o : ℕ). Follow no_totals plus (IsClassRow file sizes) o xs stand.2 end) next stand.4 in
    let rest = heads_again file sizes table (i + 1) (at + 32) (t + length x.interfaces) xs stand.2 end others (omega arith) (omega arith) in
    record {
      heads = row ∷ rest.heads;
      end = rest.end;
      read = bind_runs (class_row file sizes.types table i (place at t)) _ _ _ one (bind_runs (rows (length xs) (i + 1) (class_row file sizes.types table) (place (at + 32) (t + length x.interfaces))) _ _ _ rest.read refl);
      paired = (stand.1, stand.2, refl, class.members, rest.paired, stand.5);
    }
