-- The first element that passes a test, before and after a change.
use Rattle.std.proofs.Common.{◌≡◌, Bool, true, false, cond, List, [], ◌∷◌, ◌++◌, Some, None, find, refl, subst, ◌∙◌}
use Rattle.std.proofs.lemmas.Option.{none-some, same_Some}
use Rattle.std.proofs.lemmas.Bool.{cond-false}
use Rattle.std.proofs.lemmas.List.Folds.{find-append}
use Rattle.vet_base.proofs.Options.{cond_none}
use Rattle.case_rules.specs.Cases.{amended}

module _ {A : Type 0} where
  -- what is found by one test does not pass a test that none passes
  pub found_fails : (test other : A → Bool) (xs : List A) (x : A) → find test xs ≡ Some x → find other xs ≡ None
      → other x ≡ false
  found_fails test other [] x is none = absurd (none-some x is)
  found_fails test other (y ∷ xs) x is none =
      let parts = cond_none (other y) y (find other xs) none in
      by_test (test y) parts.0 (λ later. found_fails test other xs x later parts.1) is
    where
      by_test : (b : Bool) → other y ≡ false → (find test xs ≡ Some x → other x ≡ false)
          → cond b (Some y) (find test xs) ≡ Some x → other x ≡ false
      by_test true fails later e = subst (λ (z : A). other z ≡ false) (same_Some y x e) fails
      by_test false fails later e = later e

  pub missed_behind : (test : A → Bool) (xs : List A) (y : A) → find test xs ≡ None → test y ≡ false
      → find test (xs ++ y ∷ []) ≡ None
  missed_behind test xs y none fails = find-append test xs (y ∷ [])
      ∙ (rw none (cond-false (test y) (Some y) None fails))

  -- a change that a test does not see
  pub missed_amended : (test other : A → Bool) (f : A → A) (xs : List A) → ((x : A) → other (f x) ≡ other x)
      → find other xs ≡ None → find other (amended test f xs) ≡ None
  missed_amended test other f [] unseen none = refl
  missed_amended test other f (y ∷ xs) unseen none =
      let parts = cond_none (other y) y (find other xs) none in
      by_test (test y) parts.0 parts.1 (missed_amended test other f xs unseen parts.1)
    where
      by_test : (b : Bool) → other y ≡ false → find other xs ≡ None → find other (amended test f xs) ≡ None
          → find other (cond b (f y ∷ xs) (y ∷ amended test f xs)) ≡ None
      by_test true fails rest later = cond-false (other (f y)) (Some (f y)) (find other xs) (unseen y ∙ fails) ∙ rest
      by_test false fails rest later = cond-false (other y) (Some y) (find other (amended test f xs)) fails ∙ later
