-- Where a value goes that is raised in one frame after the other.
use Rattle.std.proofs.Common.{◌≡◌, ℕ, ◌+◌, ◌<◌, zero, suc, List, [], ◌∷◌, ◌++◌, map, take, length, get_or, Option, Some, None, slice_get, refl, sym, ap, ◌∙◌, arith}
use Rattle.std.proofs.lemmas.List.{length-take-le, take_all, take_more}
use Rattle.app_machine.specs.declared.app.App.{App}
use Rattle.app_machine.specs.State.{Frame}
use Rattle.app_machine.specs.Lookups.{step_at}
use Rattle.played_machine.specs.Drawing.{continue, draw, given, one_of}
use Rattle.played_machine.specs.Local.{catches_of}
use Rattle.runner_calls.specs.Landing.{handlers, lands, lands_at}
use Rattle.runner_calls.proofs.Stacking.{length_stack, stack, stack_push}
use Rattle.runner_state.specs.declared.frame.Called.{Called}
use Rattle.runner_state.specs.Shown.{frame_in}

-- one of a list
module _ {A : Type 0} (xs : List A) (n : ℕ) (bytes : List ℕ) (long : n ≡ length xs) where
  pub one_none : None ≡ draw n bytes → None ≡ one_of xs bytes
  unfolding one_of
  one_none drawn = ap (continue (λ i. given (slice_get xs i))) (drawn ∙ ap (λ m. draw m bytes) long)

  pub one_some : (i : ℕ) (rest : List ℕ) (x : A) → Some (i, rest) ≡ draw n bytes → slice_get xs i ≡ Some x → Some (x, rest) ≡ one_of xs bytes
  unfolding one_of
  one_some i rest x drawn at = sym (ap (λ o. given o rest) at) ∙ ap (continue (λ i. given (slice_get xs i))) (drawn ∙ ap (λ m. draw m bytes) long)

-- handlers
abbrev pub or_none : List ℕ → List (Option ℕ)
or_none pcs = map (λ pc. Some pc) pcs ++ None ∷ []

pub one_longer : (pcs : List ℕ) → length pcs + 1 ≡ length (or_none pcs)
one_longer [] = refl
one_longer (pc ∷ pcs) = let later : length pcs + 1 ≡ length (or_none pcs) = one_longer pcs in omega (arith, later)

pub handler_at : (pcs : List ℕ) (i : ℕ) → i < length pcs + 1 → slice_get (or_none pcs) i ≡ Some (slice_get pcs i)
handler_at [] zero below = refl
handler_at [] (suc i) below = absurd (omega (arith, below))
handler_at (pc ∷ pcs) zero below = refl
handler_at (pc ∷ pcs) (suc i) below = handler_at pcs i (omega (arith, below))

pub no_handler : (app : App) (f : Frame) (pcs : List ℕ) (bytes : List ℕ) → pcs ≡ catches_of (step_at app f.method f.pc) → None ≡ draw (length pcs + 1) bytes → None ≡ one_of (handlers app f) bytes
no_handler app f pcs bytes same drawn = one_none (or_none pcs) (length pcs + 1) bytes (one_longer pcs) drawn ∙ ap (λ cs. one_of (or_none cs) bytes) same

pub handler_drawn : (app : App) (f : Frame) (pcs : List ℕ) (bytes : List ℕ) (i : ℕ) (rest : List ℕ) (o : Option ℕ) → pcs ≡ catches_of (step_at app f.method f.pc) → Some (i, rest) ≡ draw (length pcs + 1) bytes → i < length pcs + 1 → o ≡ slice_get pcs i →
    Some (o, rest) ≡ one_of (handlers app f) bytes
handler_drawn app f pcs bytes i rest o same drawn below is =
    one_some (or_none pcs) (length pcs + 1) bytes (one_longer pcs) i rest o drawn (handler_at pcs i below ∙ ap (λ h. Some h) (sym is)) ∙ ap (λ cs. one_of (or_none cs) bytes) same

-- over the frames
pub none_passed : (app : App) (called : List Called) (bytes : List ℕ) → lands app (stack called) bytes ≡ lands app (stack (take (length called) called)) bytes
none_passed app called bytes = ap (λ cs. lands app (stack cs) bytes) (sym (take_all (length called) called (omega arith)))

module _ (app : App) (called : List Called) (k : ℕ) (c : Called) (all bytes : List ℕ) (within : k < length called) (is : c ≡ get_or called k c)
    (so_far : lands app (stack called) all ≡ lands app (stack (take (k + 1) called)) bytes) where
  there : lands app (stack called) all ≡ continue (lands_at k (lands app (stack (take k called)))) (one_of (handlers app (frame_in c)) bytes)
  there =
      let below : length (stack (take k called)) ≡ k = length_stack (take k called) ∙ length-take-le k called (omega (arith, within)) in
      so_far
      ∙ (ap (λ cs. lands app (stack cs) bytes) (take_more called k c within ∙ ap (λ y. take k called ++ y ∷ []) (sym is))
      ∙ (ap (λ fs. lands app fs bytes) (stack_push (take k called) c)
      ∙ ap (λ n. continue (lands_at n (lands app (stack (take k called)))) (one_of (handlers app (frame_in c)) bytes)) below))

  pub no_bytes : None ≡ one_of (handlers app (frame_in c)) bytes → None ≡ lands app (stack called) all
  no_bytes drawn = ap (continue (lands_at k (lands app (stack (take k called))))) drawn ∙ sym there

  pub is_caught : (pc : ℕ) (rest : List ℕ) → Some (Some pc, rest) ≡ one_of (handlers app (frame_in c)) bytes → Some (Some (record { below = k; pc = pc }), rest) ≡ lands app (stack called) all
  is_caught pc rest drawn = ap (continue (lands_at k (lands app (stack (take k called))))) drawn ∙ sym there

  pub goes_up : (rest : List ℕ) → Some (None, rest) ≡ one_of (handlers app (frame_in c)) bytes → lands app (stack called) all ≡ lands app (stack (take k called)) rest
  goes_up rest drawn = there ∙ sym (ap (continue (lands_at k (lands app (stack (take k called))))) drawn)
