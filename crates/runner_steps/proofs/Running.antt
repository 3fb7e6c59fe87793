-- The running frame and its caller, and what is drawn there.
use Rattle.std.proofs.Common.{◌≡◌, ℕ, List, [], ◌∷◌, drop, Some, None, slice_get, refl, sym, ap}
use Rattle.std.proofs.lemmas.Option.{none-some, same_Some}
use Rattle.app_machine.specs.State.{Frame}
use Rattle.played_machine.specs.Drawing.{Drawing}
use Rattle.runner_steps.specs.State.{on_running}

pub with_top : (fs : List Frame) (f : Frame) → Some f ≡ slice_get fs 0 → fs ≡ f ∷ drop 1 fs
with_top [] f is = absurd (none-some f (sym is))
with_top (g ∷ fs) f is = ap (λ h. h ∷ fs) (same_Some g f (sym is))

pub no_caller : (fs : List Frame) → None ≡ slice_get fs 1 → drop 1 fs ≡ []
no_caller [] is = refl
no_caller (f ∷ []) is = refl
no_caller (f ∷ g ∷ fs) is = absurd (none-some g is)

pub with_caller : (fs : List Frame) (g : Frame) → Some g ≡ slice_get fs 1 → drop 1 fs ≡ g ∷ drop 2 fs
with_caller [] g is = absurd (none-some g (sym is))
with_caller (f ∷ []) g is = absurd (none-some g (sym is))
with_caller (f ∷ h ∷ fs) g is = ap (λ k. k ∷ fs) (same_Some h g (sym is))

module _ {A : Type 0} (step : Frame → List Frame → Drawing A) (bytes : List ℕ) where
  pub none_runs : (fs : List Frame) → None ≡ slice_get fs 0 → None ≡ on_running step fs bytes
  none_runs [] is = refl
  none_runs (f ∷ fs) is = absurd (none-some f is)

  pub one_runs : (fs : List Frame) (f : Frame) → Some f ≡ slice_get fs 0 → on_running step fs bytes ≡ step f (drop 1 fs) bytes
  one_runs [] f is = absurd (none-some f (sym is))
  one_runs (g ∷ fs) f is = ap (λ h. step h fs bytes) (same_Some g f (sym is))
