-- One component is set.
use Rattle.std.proofs.Common.{◌≡◌, ◌==◌, ◌<◌, ℕ, zero, suc, Bool, true, false, cond, List, [], ◌∷◌, ◌++◌, length, slice_get, refl, sym, ap, ◌∙◌, arith, eqb-true, eq-eqb}
use Rattle.std.specs.Prelude.{slice_set}
use Rattle.app_machine.specs.Events.{set_component}
use Rattle.app_machine.specs.State.{ComponentState}
use Rattle.played_machine.proofs.Ordered.{false_true}
use Rattle.runner_world.specs.declared.lives.Life.{Life}
use Rattle.runner_world.specs.Shown.{absent, state_of, state_or_absent}

-- a list of states, absent past the end
abbrev pub states_in : List Life → ℕ → ComponentState
states_in xs i = state_or_absent (slice_get xs i)

same : (xs : List Life) (k : ℕ) (v : Life) → k < length xs → states_in (slice_set xs k v) k ≡ state_of v
same [] k v lt = absurd (omega (arith, lt))
same (x ∷ xs) zero v lt = refl
same (x ∷ xs) (suc k) v lt = same xs k v (omega (arith, lt))

other : (xs : List Life) (k : ℕ) (v : Life) (r : ℕ) → (r ≡ k → ⊥) → slice_get (slice_set xs k v) r ≡ slice_get xs r
other [] k v r neq = refl
other (x ∷ xs) zero v zero neq = absurd (neq refl)
other (x ∷ xs) zero v (suc r) neq = refl
other (x ∷ xs) (suc k) v zero neq = refl
other (x ∷ xs) (suc k) v (suc r) neq = other xs k v r (λ e. neq (ap suc e))

pub set_state : (xs : List Life) (k : ℕ) (v : Life) → k < length xs → states_in (slice_set xs k v) ≡ set_component (states_in xs) k (state_of v)
set_state xs k v lt = λ i r. at r (r == k) refl i
  where
    at : (r : ℕ) (b : Bool) → (r == k) ≡ b → states_in (slice_set xs k v) r ≡ cond (r == k) (state_of v) (states_in xs r)
    at r true e = ap (λ z. states_in (slice_set xs k v) z) (eqb-true r k e) ∙ (same xs k v lt ∙ ap (λ b. cond b (state_of v) (states_in xs r)) (sym e))
    at r false e = ap state_or_absent (other xs k v r (λ is. false_true (sym e ∙ eq-eqb r k is))) ∙ ap (λ b. cond b (state_of v) (states_in xs r)) (sym e)

pub push_state : (xs : List Life) (b : Life) → state_of b ≡ absent → states_in (xs ++ b ∷ []) ≡ states_in xs
push_state xs b is = λ i r. at xs r i
  where
    at : (xs : List Life) (r : ℕ) → states_in (xs ++ b ∷ []) r ≡ states_in xs r
    at [] zero = is
    at [] (suc r) = refl
    at (x ∷ xs) zero = refl
    at (x ∷ xs) (suc r) = at xs r

pub none_there : (xs : List Life) → xs ≡ [] → states_in xs ≡ (λ c. absent)
none_there xs is = ap states_in is
