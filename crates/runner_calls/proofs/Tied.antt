-- A raise by its definition is where the value goes, and the frames that are left.
use Rattle.std.proofs.Common.{◌≡◌, ℕ, ◌+◌, ◌<◌, cond, List, [], ◌∷◌, length, Option, Some, None, refl, sym, ap, ◌∙◌, arith}
use Rattle.std.proofs.lemmas.Bool.{le-leb, lt-leb}
use Rattle.std.proofs.lemmas.Option.{none-some, same_Some}
use Rattle.app_machine.specs.declared.app.App.{App}
use Rattle.app_machine.specs.Heap.{Value}
use Rattle.app_machine.specs.State.{World, Frame, exception_register}
use Rattle.played_machine.specs.Drawing.{Drawing, give, continue, one_of, ◌>>=◌}
use Rattle.played_machine.specs.Local.{Playing, playing, raised, raised_to}
use Rattle.runner_calls.specs.declared.landing.Landing.{Landing}
use Rattle.runner_calls.specs.Frames.{gone_on}
use Rattle.runner_calls.specs.Landing.{down_to, handlers, landed, lands, lands_at}

-- a place where a value goes, and the bytes behind it
abbrev drawn_to : Option Landing → List ℕ → Option (Option Landing × List ℕ)
drawn_to at left = Some (at, left)

same_landing : (one other : Option Landing) (left rest : List ℕ) → drawn_to one left ≡ drawn_to other rest → one ≡ other
same_landing one other left rest is = ap (λ (p : Option Landing × List ℕ). p.0) (same_Some (one, left) (other, rest) is)

caught_below : (fs : List Frame) (pc : ℕ) (left rest : List ℕ) (at : Landing) → drawn_to (Some (record { below = length fs; pc = pc })) left ≡ drawn_to (Some at) rest → at.below < length fs + 1
caught_below fs pc left rest at is =
    let here : Landing = record { below = length fs; pc = pc } in
    let one : here ≡ at = same_Some here at (same_landing (Some here) (Some at) left rest is) in
    let number : length fs ≡ at.below = ap (λ (l : Landing). l.below) one in
    omega (arith, number)

pub lands_within : (app : App) (fs : List Frame) (bytes rest : List ℕ) (at : Landing) → lands app fs bytes ≡ drawn_to (Some at) rest → at.below < length fs
lands_within app [] bytes rest at is = absurd (none-some at (same_landing None (Some at) bytes rest is))
lands_within app (f ∷ fs) bytes rest at is = by_drawn (λ left e. lands_within app fs left rest at e) (one_of (handlers app f) bytes) is
  where
    by_handler : ((left : List ℕ) → lands app fs left ≡ drawn_to (Some at) rest → at.below < length fs) → (o : Option ℕ) (left : List ℕ) → lands_at (length fs) (lands app fs) o left ≡ drawn_to (Some at) rest → at.below < length fs + 1
    by_handler later None left is = let before : at.below < length fs = later left is in omega (arith, before)
    by_handler later (Some pc) left is = caught_below fs pc left rest at is

    by_drawn : ((left : List ℕ) → lands app fs left ≡ drawn_to (Some at) rest → at.below < length fs) → (o : Option (Option ℕ × List ℕ)) → continue (lands_at (length fs) (lands app fs)) o ≡ drawn_to (Some at) rest → at.below < length (f ∷ fs)
    by_drawn later None is = absurd (none-some (Some at, rest) is)
    by_drawn later (Some drawn) is = let here : at.below < length fs + 1 = by_handler later drawn.0 drawn.1 is in omega (arith, here)

module _ (app : App) (v : Value) (w : World) where
  abbrev pub ending : List Frame → Option Landing → Drawing Playing
  ending fs at = give (playing w (landed v fs at))

  same_landed : (f : Frame) (fs : List Frame) (o : Option Landing) → ((at : Landing) → o ≡ Some at → at.below < length fs) → landed v fs o ≡ landed v (f ∷ fs) o
  same_landed f fs None within = refl
  same_landed f fs (Some at) within = ap (λ b. gone_on exception_register v at.pc (cond b (f ∷ fs) (down_to at.below fs))) (sym (lt-leb (length fs) at.below (within at refl)))

  further : (f : Frame) (fs : List Frame) (left : List ℕ) (o : Option (Option Landing × List ℕ)) → lands app fs left ≡ o → continue (ending fs) o ≡ continue (ending (f ∷ fs)) o
  further f fs left None is = refl
  further f fs left (Some landing) is =
      ap (λ gs. Some (playing w gs, landing.1)) (same_landed f fs landing.0 (λ at e. lands_within app fs left landing.1 at (is ∙ ap (λ o. Some (o, landing.1)) e)))

  pub raised_is : (fs : List Frame) (bytes : List ℕ) → raised app v w fs bytes ≡ (lands app fs >>= ending fs) bytes
  raised_is [] bytes = refl
  raised_is (f ∷ fs) bytes = by_drawn (raised_is fs) (one_of (handlers app f) bytes)
    where
      by_handler : ((left : List ℕ) → raised app v w fs left ≡ (lands app fs >>= ending fs) left) → (o : Option ℕ) (left : List ℕ) → raised_to app v w f fs (raised app v w fs) o left ≡ continue (ending (f ∷ fs)) (lands_at (length fs) (lands app fs) o left)
      by_handler later None left = later left ∙ further f fs left (lands app fs left) refl
      by_handler later (Some pc) left = ap (λ b. Some (playing w (gone_on exception_register v pc (cond b (f ∷ fs) (down_to (length fs) fs))), left)) (sym (le-leb (length fs) (length fs) (omega arith)))

      by_drawn : ((left : List ℕ) → raised app v w fs left ≡ (lands app fs >>= ending fs) left) → (o : Option (Option ℕ × List ℕ)) → continue (raised_to app v w f fs (raised app v w fs)) o ≡ continue (ending (f ∷ fs)) (continue (lands_at (length fs) (lands app fs)) o)
      by_drawn later None = refl
      by_drawn later (Some drawn) = by_handler later drawn.0 drawn.1
