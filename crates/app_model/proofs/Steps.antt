-- The step at a pc, as halving over the steps finds it.
use Rattle.std.proofs.Common.{◌≡◌, ℕ, ◌<◌, ◌≤◌, Bool, true, false, List, length, get_or, Some, None, Err, slice_get, find, refl, sym, ap, subst, ◌∙◌, eq-eqb}
use Rattle.std.specs.Ordering.{nat_cmp}
use Rattle.std.specs.declared.cmp.Ordering.TheVariants.{Equal}
use Rattle.std.specs.Cmp.{nat_cmp_total, nat_cmp_is}
use Rattle.std.specs.List.Sorted.{IsBinarySearchResult}
use Rattle.std.proofs.lemmas.Bool.{eqb-true}
use Rattle.std.proofs.lemmas.Map.Lookups.{exact_unsigned}
use Rattle.app_machine.specs.declared.app.App.{App}
use Rattle.app_machine.specs.declared.method.Method.{Method}
use Rattle.app_machine.specs.declared.method.Step.{Step}
use Rattle.app_machine.specs.Sound.{SoundApp, SoundMethod}
use Rattle.vet_base.specs.Ascending.{Ascends}
use Rattle.vet_base.proofs.Halving.{found_at, found_nowhere}
use Rattle.vet_base.proofs.Members.{in_slice_get}
use Rattle.app_model.specs.Search.{is_step_at, step_order}

pub steps_ascend : (app : App) → SoundApp app → (method : ℕ) (m : Method) → slice_get app.methods method ≡ Some m → Ascends step_order m.steps
steps_ascend app sound method m there = by_code m.is_native refl (sound.bodies m (in_slice_get app.methods method m there))
  where
    by_code : (b : Bool) → m.is_native ≡ b → SoundMethod app m → Ascends step_order m.steps
    by_code true is body = subst (Ascends step_order) (sym (body.of_native is)) tt
    by_code false is body = (body.of_code is).order

step_ties : (pc : ℕ) (step : Step) → is_step_at pc step ≡ true → nat_cmp step.pc pc ≡ Equal
step_ties pc step same = sym (nat_cmp_is step.pc pc Equal (eqb-true step.pc pc same))

tied_step : (pc : ℕ) (step : Step) → nat_cmp step.pc pc ≡ Equal → is_step_at pc step ≡ true
tied_step pc step ties = eq-eqb step.pc pc (exact_unsigned step.pc pc ties)

module _ (steps : List Step) (sorted : Ascends step_order steps) (pc i : ℕ) where
  pub step_there : (step : Step) → i < length steps → step ≡ get_or steps i step → nat_cmp (get_or steps i step).pc pc ≡ Equal → find (is_step_at pc) steps ≡ Some step
  step_there step within is ties =
      (found_at (λ (s : Step). s.pc) nat_cmp_total steps sorted pc (is_step_at pc) (step_ties pc) i step within is ties (ap (is_step_at pc) is ∙ tied_step pc (get_or steps i step) ties)).1

  pub step_missing : i ≤ length steps → IsBinarySearchResult (λ (s : Step). nat_cmp s.pc pc) steps (Err i) → find (is_step_at pc) steps ≡ None
  step_missing within parted = (found_nowhere (λ (s : Step). s.pc) nat_cmp_total steps sorted pc (is_step_at pc) (step_ties pc) i within parted).1
