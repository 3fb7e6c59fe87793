-- The places of the cases with an open appeal.
use Rattle.std.proofs.Common.{◌≡◌, ◌<◌, ◌==◌, ℕ, zero, suc, ◌+◌, Bool, true, false, cond, List, [], ◌∷◌, ◌++◌, length, set, filter, Some, refl, sym, ap, subst, ◌∙◌, inl, inr, arith, eq-eqb}
use Rattle.std.specs.List.{slice_get}
use Rattle.std.specs.Ordering.{nat_cmp}
use Rattle.std.specs.BTreeSet.{BTreeSet, IsOrdered, contains}
use Rattle.std.proofs.lemmas.Bool.{cases_eq, ne_eqb}
use Rattle.std.proofs.lemmas.Cmp.{nat_cmp_total}
use Rattle.std.proofs.lemmas.Map.Lookups.{exact_unsigned}
use Rattle.std.proofs.lemmas.Map.Views.{btree_set_contains_iff}
use Rattle.vet_base.specs.Members.{In}
use Rattle.vet_base.specs.Ascending.{Ascends}
use Rattle.vet_base.proofs.Members.{in_iff_contains}
use Rattle.vet_base.proofs.Orders.{less_cmp}
use Rattle.vet_base.proofs.Ascending.{ascends_from_sorted, ascending_alike}
use Rattle.case_rules.specs.declared.case.Case.{Case}
use Rattle.case_rules.specs.declared.case.Entry.{Entry}
use Rattle.case_rules.specs.Cases.{last, is_open_by, has_open_appeal}
use Rattle.case_keeper.specs.MemoryKeeper.{cases_at, is_open_case, places_from}
use Rattle.case_keeper.proofs.Placed.{cases_at_places}

-- a case without entries has no open appeal
none_open : (case : Case) → case.entries ≡ [] → has_open_appeal case ≡ false
none_open case none = ap (λ (entries : List Entry). is_open_by (last entries)) none

pub open_added : (cases : List Case) (case : Case) (place : ℕ) → case.entries ≡ []
    → is_open_case (slice_get (cases ++ case ∷ []) place) ≡ is_open_case (slice_get cases place)
open_added [] case zero none = none_open case none
open_added [] case (suc place) none = refl
open_added (c ∷ cases) case zero none = refl
open_added (c ∷ cases) case (suc place) none = open_added cases case place none

written : (cases : List Case) (place : ℕ) (new : Case) → place < length cases
    → slice_get (set cases place new) place ≡ Some new
written [] place new within = absurd (omega arith)
written (c ∷ cases) zero new within = refl
written (c ∷ cases) (suc place) new within = written cases place new (omega arith)

unwritten : (cases : List Case) (place other : ℕ) (new : Case) → (place ≡ other → ⊥)
    → slice_get (set cases place new) other ≡ slice_get cases other
unwritten [] place other new differs = refl
unwritten (c ∷ cases) zero zero new differs = absurd (differs refl)
unwritten (c ∷ cases) zero (suc other) new differs = refl
unwritten (c ∷ cases) (suc place) zero new differs = refl
unwritten (c ∷ cases) (suc place) (suc other) new differs = unwritten cases place other new (λ e. differs (ap suc e))

-- what is open once the case at a place became another
pub open_written : (cases : List Case) (place other : ℕ) (new : Case) → place < length cases
    → is_open_case (slice_get (set cases place new) other)
    ≡ cond (place == other) (has_open_appeal new) (is_open_case (slice_get cases other))
open_written cases place other new within =
    elim (cases_eq place other) [ inl same ↦ here same | inr differs ↦ there differs ]
  where
    here : place ≡ other → is_open_case (slice_get (set cases place new) other)
        ≡ cond (place == other) (has_open_appeal new) (is_open_case (slice_get cases other))
    here same =
        ap is_open_case (subst (λ (o : ℕ). slice_get (set cases place new) o ≡ Some new) same
        (written cases place new within))
        ∙ sym (ap (λ (b : Bool). cond b (has_open_appeal new) (is_open_case (slice_get cases other)))
        (eq-eqb place other same))

    there : (place ≡ other → ⊥) → is_open_case (slice_get (set cases place new) other)
        ≡ cond (place == other) (has_open_appeal new) (is_open_case (slice_get cases other))
    there differs =
        ap is_open_case (unwritten cases place other new differs)
        ∙ sym (ap (λ (b : Bool). cond b (has_open_appeal new) (is_open_case (slice_get cases other)))
        (ne_eqb place other differs))

-- the places of the cases with an open appeal, from a number on
abbrev open_from : ℕ → List Case → List ℕ
open_from n cases = places_from n has_open_appeal cases

-- a place of the list is that of a case with an open appeal, and the other way round
open_there : (n : ℕ) (cases : List Case) (p : ℕ) → In p (open_from n cases)
    → (k : ℕ) × (p ≡ n + k) × (is_open_case (slice_get cases k) ≡ true)
open_there n [] p is_in = absurd is_in
open_there n (c ∷ cases) p is_in = by_test (has_open_appeal c) refl (open_there (n + 1) cases p) is_in
  where
    Found : Type 0
    Found = (k : ℕ) × (p ≡ n + k) × (is_open_case (slice_get (c ∷ cases) k) ≡ true)

    next : (k : ℕ) × (p ≡ n + 1 + k) × (is_open_case (slice_get cases k) ≡ true) → Found
    next found = let place : p ≡ n + suc found.0 = omega (arith, found.1) in (suc found.0, place, found.2)

    by_test : (b : Bool) → has_open_appeal c ≡ b
        → (In p (open_from (n + 1) cases) → (k : ℕ) × (p ≡ n + 1 + k) × (is_open_case (slice_get cases k) ≡ true))
        → In p (cond b (n ∷ open_from (n + 1) cases) (open_from (n + 1) cases)) → Found
    by_test true passes later (inl same) = let place : p ≡ n + 0 = omega (arith, same) in (0, place, passes)
    by_test true passes later (inr behind) = next (later behind)
    by_test false fails later behind = next (later behind)

there_open : (n : ℕ) (cases : List Case) (k : ℕ) → is_open_case (slice_get cases k) ≡ true
    → In (n + k) (open_from n cases)
there_open n [] k is = absurd cc
there_open n (c ∷ cases) zero is =
    let first : n + 0 ≡ n = omega arith in
    subst (λ (b : Bool). In (n + 0) (cond b (n ∷ open_from (n + 1) cases) (open_from (n + 1) cases)))
    (sym is) (inl first)
there_open n (c ∷ cases) (suc k) is =
    let same : n + 1 + k ≡ n + suc k = omega arith in
    by_test (has_open_appeal c)
    (subst (λ (q : ℕ). In q (open_from (n + 1) cases)) same (there_open (n + 1) cases k is))
  where
    by_test : (b : Bool) → In (n + suc k) (open_from (n + 1) cases)
        → In (n + suc k) (cond b (n ∷ open_from (n + 1) cases) (open_from (n + 1) cases))
    by_test true later = inr later
    by_test false later = later

ascends_cons : (x : ℕ) (ys : List ℕ) → ((y : ℕ) → In y ys → x < y) → Ascends nat_cmp ys → Ascends nat_cmp (x ∷ ys)
ascends_cons x [] below up = tt
ascends_cons x (y ∷ ys) below up = (less_cmp x y (below y (inl refl)), up)

places_ascend : (n : ℕ) (cases : List Case) → Ascends nat_cmp (open_from n cases)
places_ascend n [] = tt
places_ascend n (c ∷ cases) = by_test (has_open_appeal c) (places_ascend (n + 1) cases)
  where
    above : (y : ℕ) → In y (open_from (n + 1) cases) → n < y
    above y is_in = let found = open_there (n + 1) cases y is_in in omega (arith, found.1)

    by_test : (b : Bool) → Ascends nat_cmp (open_from (n + 1) cases)
        → Ascends nat_cmp (cond b (n ∷ open_from (n + 1) cases) (open_from (n + 1) cases))
    by_test true up = ascends_cons n (open_from (n + 1) cases) above up
    by_test false up = up

-- the set of these places, in order
keys_open : (cases : List Case) (appealed : BTreeSet ℕ) → IsOrdered nat_cmp appealed
    → ((place : ℕ) → contains nat_cmp appealed place ≡ is_open_case (slice_get cases place))
    → appealed.keys ≡ open_from 0 cases
keys_open cases appealed ordered noted =
    ascending_alike nat_cmp nat_cmp_total appealed.keys (open_from 0 cases)
    (ascends_from_sorted nat_cmp appealed.keys ordered) (places_ascend 0 cases) (λ p. (there p, back p))
  where
    there : (p : ℕ) → In p appealed.keys → In p (open_from 0 cases)
    there p is_in =
        let held : contains nat_cmp appealed p ≡ true =
        (btree_set_contains_iff nat_cmp_total exact_unsigned appealed p).1
        ((in_iff_contains p appealed.keys).0 is_in) in
        let same : 0 + p ≡ p = omega arith in
        subst (λ (q : ℕ). In q (open_from 0 cases)) same (there_open 0 cases p (sym (noted p) ∙ held))

    back : (p : ℕ) → In p (open_from 0 cases) → In p appealed.keys
    back p is_in =
        let found = open_there 0 cases p is_in in
        let same : found.0 ≡ p = omega (arith, found.1) in
        let held : contains nat_cmp appealed p ≡ true =
        noted p ∙ subst (λ (q : ℕ). is_open_case (slice_get cases q) ≡ true) same found.2 in
        (in_iff_contains p appealed.keys).1 ((btree_set_contains_iff nat_cmp_total exact_unsigned appealed p).0 held)

-- the cases at these places are those with an open appeal
pub open_cases : (cases : List Case) (appealed : BTreeSet ℕ) → IsOrdered nat_cmp appealed
    → ((place : ℕ) → contains nat_cmp appealed place ≡ is_open_case (slice_get cases place))
    → cases_at cases appealed.keys ≡ filter has_open_appeal cases
open_cases cases appealed ordered noted =
    ap (cases_at cases) (keys_open cases appealed ordered noted) ∙ cases_at_places has_open_appeal cases
