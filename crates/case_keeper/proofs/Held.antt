-- What a keeper in memory holds, where it is looked at and where a case changes.
use Rattle.std.proofs.Common.{◌≡◌, ℕ, zero, suc, ◌<◌, Bool, true, false, cond, List, [], ◌∷◌, length, get_or, Some, find, refl, sym, ap, subst, ◌∙◌, inl, inr, arith}
use Rattle.std.specs.List.{slice_get, AllWithin}
use Rattle.std.proofs.lemmas.Bool.{cond-true, cond-false, cases_lt}
use Rattle.case_rules.specs.declared.case.Case.{Case}
use Rattle.case_rules.specs.declared.reply.Change.{Change}
use Rattle.case_rules.specs.Cases.{is_of, rows_of, amended}
use Rattle.case_keeper.specs.declared.placing.CaseIndex.{CaseIndex}
use Rattle.case_keeper.specs.MemoryKeeper.{IsPast, IsIndex, IsHeld, owned_by, cases_at, amended_by}
use Rattle.case_keeper.proofs.Leaving.{leaves_by}
use Rattle.case_keeper.proofs.Placed.{cases_at_places}

-- the places that are noted for a developer are those of the own cases
pub own_cases : (cases : List Case) (index : CaseIndex) (party : List ℕ) → IsIndex cases index
    → cases_at cases (owned_by index.owned party) ≡ rows_of party cases
own_cases cases index party held = ap (cases_at cases) (held.own party) ∙ cases_at_places (is_of party) cases

-- what stands behind all that fail is what is found
pub found_behind : (test : Case → Bool) (cases : List Case) (i : ℕ)
    → AllWithin (λ case. test case ≡ false) cases 0 i
    → ((d : Case) → i < length cases → test (get_or cases i d) ≡ true)
    → slice_get cases i ≡ find test cases
found_behind test [] i fails passes = refl
found_behind test (c ∷ cases) zero fails passes =
    sym (cond-true (test c) (Some c) (find test cases) (passes c (omega arith)))
found_behind test (c ∷ cases) (suc i) fails passes =
    found_behind test cases i (λ k d low high. fails (suc k) d (omega arith) (omega arith))
    (λ d within. passes d (omega arith))
    ∙ sym (cond-false (test c) (Some c) (find test cases) (fails 0 c (omega arith) (omega arith)))

pub past_on : (cases : List Case) (i j : ℕ) → AllWithin IsPast cases 0 i → AllWithin IsPast cases i j
    → AllWithin IsPast cases 0 j
past_on cases i j first later = λ k d low high. elim (cases_lt k i) [
  | inl below ↦ first k d low below
  | inr above ↦
      later k d above high
]

length_amended : (test : Case → Bool) (f : Case → Case) (cases : List Case)
    → length (amended test f cases) ≡ length cases
length_amended test f [] = refl
length_amended test f (c ∷ cases) = by_test (test c) (length_amended test f cases)
  where
    by_test : (b : Bool) → length (amended test f cases) ≡ length cases
        → length (cond b (f c ∷ cases) (c ∷ amended test f cases)) ≡ length (c ∷ cases)
    by_test true later = refl
    by_test false later = ap suc later

past_at : (test : Case → Bool) (f : Case → Case) → ((case : Case) → IsPast case → IsPast (f case))
    → (cases : List Case) (k : ℕ) (d : Case) → IsPast (get_or cases k d)
    → IsPast (get_or (amended test f cases) k d)
past_at test f stays [] k d past = past
past_at test f stays (c ∷ cases) zero d past = by_test (test c)
  where
    by_test : (b : Bool) → IsPast (get_or (cond b (f c ∷ cases) (c ∷ amended test f cases)) 0 d)
    by_test true = stays c past
    by_test false = past
past_at test f stays (c ∷ cases) (suc k) d past = by_test (test c) (past_at test f stays cases k d past)
  where
    by_test : (b : Bool) → IsPast (get_or (amended test f cases) k d)
        → IsPast (get_or (cond b (f c ∷ cases) (c ∷ amended test f cases)) (suc k) d)
    by_test true later = past
    by_test false later = later

-- a case that changed
pub held_amended : (change : Change) (test : Case → Bool) (cases new : List Case) (before after : CaseIndex)
    (decided : ℕ)
    → IsHeld cases before decided → IsIndex new after → new ≡ amended test (amended_by change) cases
    → IsHeld new after decided
held_amended change test cases new before after decided held index is = record {
  index = index;
  within = omega (arith, ap length is, length_amended test (amended_by change) cases, held.within);
  past = λ k d low high. subst (λ (xs : List Case). IsPast (get_or xs k d)) (sym is)
      (past_at test (amended_by change) (leaves_by change).past cases k d (held.past k d low high));
}
