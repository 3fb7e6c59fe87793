-- A list of types that is read stands there, and one that stands there is read.
use Rattle.std.proofs.Common.{◌≡◌, ℕ, zero, suc, ◌+◌, ◌*◌, ◌<◌, ◌≤◌, List, [], ◌∷◌, length, Some, Ok, refl, sym, ap, subst, ◌∙◌, arith}
use Rattle.std.proofs.lemmas.Bool.{ltb-true, lt-ltb, le-leb}
use Rattle.std.proofs.lemmas.List.Sums.{sum_by-cons}
use Rattle.std.specs.Prelude.{nat_le, sum_by}
use Rattle.vet_base.specs.Numbers.{u2, u4}
use Rattle.vet_base.specs.Script.{run}
use Rattle.dex_tables.specs.declared.fault.Table.{Table}
use Rattle.dex_tables.specs.declared.place.Place.{Place}
use Rattle.dex_tables.specs.TypeLists.{place, entry_row, entries_at, listed_at, type_list_at}
use Rattle.dex_tables.specs.Sequences.{Is2, Is4, RowsStand}
use Rattle.dex_tables.specs.TablesStand.{IsTypeList, MaybeTypeList}
use Rattle.dex_tables.proofs.Readings.{there_ok, repeat_read, repeat_again, OneRead}
use Rattle.dex_tables.proofs.Numbers.{u2_is, u4_is, u2_within, u4_within, suc_not_zero}
use Rattle.dex_tables.proofs.RunningTotals.{number_adds, rows_from_follow, follow_from_rows}
use Rattle.vet_base.proofs.Runs.{bind_ok, test_ok, bind_runs, value_is}

-- a list of types, of which each entry adds one
Listed : List ℕ → ℕ → ℕ → ℕ → ℕ → ℕ → Type 0
Listed file types at kind adds to = (Is2 file at kind × (kind < types)) × (adds ≡ 1) × (to ≡ at + 2)

entry_is : (file : List ℕ) (types : ℕ) (table : Table) (row list at t x : ℕ) (s : Place) → t ≤ 4000000 → run (entry_row file types table row list (place at t)) ≡ Ok (x, s)
    → OneRead (λ a b. a + b) (λ a. a ≤ 4000000) (Listed file types) place at t x s
unfolding entry_row Listed
entry_is file types table row list at t x s fit e =
    let a = there_ok (u2 file at) _ _ _ _ e in
    let b = test_ok _ _ _ _ a.2 in
    let c = test_ok _ _ _ _ b.1 in
    let here = u2_is file at a.0 a.1 in
    let under : t < 4000000 = ltb-true _ _ c.0 in
    subst (λ (p : ℕ × Place). OneRead (λ a b. a + b) (λ a. a ≤ 4000000) (Listed file types) place at t p.0 p.1) (value_is _ _ c.1)
    (record { to = a.0.1; adds = 1; stands = ((here.0, ltb-true _ _ b.0), refl, here.1); is = refl; fits = omega arith })

entry_again : (file : List ℕ) (types : ℕ) (table : Table) (row list at t x adds to : ℕ) → Listed file types at x adds to → t + adds ≤ 4000000
    → run (entry_row file types table row list (place at t)) ≡ Ok (x, place to (t + adds))
unfolding entry_row Listed
entry_again file types table row list at t x adds to is fit =
    let u : u2 file at ≡ Some (x, at + 2) = is.0.0 in
    let one : adds ≡ 1 = is.1 in
    let end : to ≡ at + 2 = is.2 in
    let under : t < 4000000 = omega arith in
    rw (u, lt-ltb x types is.0.1, lt-ltb t 4000000 under, one, end) refl

sum_of_ones : (xs : List ℕ) → sum_by (λ _. 1) xs ≡ length xs
sum_of_ones [] = refl
sum_of_ones (x ∷ xs) = let rest : sum_by (λ _. 1) xs ≡ length xs = sum_of_ones xs in sum_by-cons (λ (_ : ℕ). 1) x xs ∙ omega (arith, rest)

pub list_is : (file : List ℕ) (types : ℕ) (table : Table) (row list t : ℕ) (xs : List ℕ) (u : ℕ) → t ≤ 4000000 → run (listed_at file types table row list t) ≡ Ok (xs, u)
    → IsTypeList file types list xs × (u ≡ t + length xs) × (u ≤ 4000000)
unfolding listed_at entries_at Listed
list_is file types table row list t xs u fit e =
    let a = there_ok (u4 file list) _ _ _ _ e in
    let b = test_ok (nat_le (a.0.1 + 2 * a.0.0) (length file)) _ _ _ a.2 in
    let c = bind_ok (entries_at file types table row list a.0.0 (place a.0.1 t)) _ _ b.1 in
    let here = u4_is file list a.0 a.1 in
    let read = repeat_read 0 (λ a b. a + b) (λ a. a ≤ 4000000) (Listed file types) place (entry_row file types table row list) (number_adds 4000000)
    (λ q t x s. entry_is file types table row list q t x s) a.0.0 a.0.1 t c.0.0 c.0.1 fit c.1 in
    let rows = rows_from_follow (λ at kind. Is2 file at kind × (kind < types)) (λ _. 1) 2 a.0.1 c.0.0 read.adds read.to read.stand in
    let next : a.0.1 ≡ list + 4 = here.1 in
    let ones : sum_by (λ _. 1) c.0.0 ≡ length c.0.0 = sum_of_ones c.0.0 in
    let adds : read.adds ≡ sum_by (λ _. 1) c.0.0 = rows.1 in
    let count : length c.0.0 ≡ a.0.0 = read.count in
    let size : Is4 file list a.0.0 = here.0 in
    let total : c.0.1.total ≡ t + read.adds = ap (λ (p : Place). p.total) read.is in
    let fits : t + read.adds ≤ 4000000 = read.fits in
    subst (λ (p : List ℕ × ℕ). IsTypeList file types list p.0 × (p.1 ≡ t + length p.0) × (p.1 ≤ 4000000)) (value_is _ _ c.2)
    (record { size = subst (λ (n : ℕ). Is4 file list n) (sym count) size; stand = subst (λ (o : ℕ). RowsStand (λ at kind. Is2 file at kind × (kind < types)) 2 o c.0.0) next rows.0 }, (total ∙ ap (λ (n : ℕ). t + n) (adds ∙ ones)), omega arith)

rows_within : (file : List ℕ) (types at : ℕ) (xs : List ℕ) → at ≤ length file → RowsStand (λ at kind. Is2 file at kind × (kind < types)) 2 at xs → at + 2 * length xs ≤ length file
rows_within file types at [] le stand = omega arith
rows_within file types at (x ∷ xs) le stand =
    let next : at + 2 ≤ length file = u2_within file at x stand.0.0 in
    let rest : at + 2 + 2 * length xs ≤ length file = rows_within file types (at + 2) xs next stand.1 in
    omega (arith, rest)

pub list_again : (file : List ℕ) (types : ℕ) (table : Table) (row list t : ℕ) (xs : List ℕ) → IsTypeList file types list xs → t + length xs ≤ 4000000
    → run (listed_at file types table row list t) ≡ Ok (xs, t + length xs)
unfolding listed_at entries_at Listed
list_again file types table row list t xs is fit =
    let size : u4 file list ≡ Some (length xs, list + 4) = is.size in
    let within : list + 4 + 2 * length xs ≤ length file = rows_within file types (list + 4) xs (u4_within file list (length xs) size) is.stand in
    let follow = follow_from_rows (λ at kind. Is2 file at kind × (kind < types)) (λ _. 1) 2 (list + 4) xs is.stand in
    let ones : sum_by (λ _. 1) xs ≡ length xs = sum_of_ones xs in
    let read = repeat_again 0 (λ a b. a + b) (λ a. a ≤ 4000000) (Listed file types) place (entry_row file types table row list) (number_adds 4000000)
    (λ q t x adds to. entry_again file types table row list q t x adds to) (list + 4) t xs (sum_by (λ _. 1) xs) follow.0 follow.1 (rw ones fit) in
    rw (size, le-leb (list + 4 + 2 * length xs) (length file) within)
    (bind_runs (entries_at file types table row list (length xs) (place (list + 4) t)) (xs, place follow.0 (t + sum_by (λ _. 1) xs)) _ _ read (rw ones refl))

-- offset 0 and any other
pub maybe_list_is : (file : List ℕ) (types : ℕ) (table : Table) (row list t : ℕ) (xs : List ℕ) (u : ℕ) → t ≤ 4000000 → run (type_list_at file types table row list t) ≡ Ok (xs, u)
    → MaybeTypeList file types list xs × (u ≡ t + length xs) × (u ≤ 4000000)
unfolding type_list_at
maybe_list_is file types table row zero t xs u fit e =
    subst (λ (p : List ℕ × ℕ). MaybeTypeList file types 0 p.0 × (p.1 ≡ t + length p.0) × (p.1 ≤ 4000000)) (value_is ([], t) (xs, u) e) (refl, omega arith, fit)
maybe_list_is file types table row (suc list) t xs u fit e = list_is file types table row (suc list) t xs u fit (rw (suc_not_zero list) at e)

pub maybe_list_again : (file : List ℕ) (types : ℕ) (table : Table) (row list t : ℕ) (xs : List ℕ) → MaybeTypeList file types list xs → t + length xs ≤ 4000000
    → run (type_list_at file types table row list t) ≡ Ok (xs, t + length xs)
unfolding type_list_at
maybe_list_again file types table row zero t xs is fit =
    let none : xs ≡ [] = is in
    let zero-more : t + 0 ≡ t = omega arith in
    rw (none, zero-more) refl
maybe_list_again file types table row (suc list) t xs is fit = rw (suc_not_zero list) (list_again file types table row (suc list) t xs is fit)
