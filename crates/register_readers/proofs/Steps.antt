-- The method of a step.
use Rattle.std.proofs.Common.{◌≡◌, ◌==◌, ℕ, Option, Some, None, slice_get, find, refl, sym, ap, ◌∙◌}
use Rattle.std.proofs.lemmas.Option.{none-some}
use Rattle.app_machine.specs.declared.method.Method.{Method}
use Rattle.app_machine.specs.declared.method.Step.{Step}
use Rattle.app_machine.specs.declared.app.App.{App}
use Rattle.app_machine.specs.Lookups.{step_at}
use Rattle.vet_base.specs.Members.{In}
use Rattle.vet_base.proofs.Members.{in_found}

-- a step that is found stands in its method
pub step_among : (app : App) (method pc : ℕ) (m : Method) (step : Step) → slice_get app.methods method ≡ Some m → step_at app method pc ≡ Some step → In step m.steps
unfolding step_at
step_among app method pc m step there at =
    in_found (λ (s : Step). s.pc == pc) m.steps step (sym (ap (λ o. elim o [ None ↦ None | Some m ↦ find (λ (s : Step). s.pc == pc) m.steps ]) there) ∙ at)

-- the method of a step that is found
pub method_of_step : (app : App) (method pc : ℕ) (step : Step) → step_at app method pc ≡ Some step → (m : Method) × (slice_get app.methods method ≡ Some m)
unfolding step_at
method_of_step app method pc step at = go (slice_get app.methods method) refl at
  where
    go : (o : Option Method) → slice_get app.methods method ≡ o → elim o [ None ↦ None | Some m ↦ find (λ (s : Step). s.pc == pc) m.steps ] ≡ Some step → (m : Method) × (slice_get app.methods method ≡ Some m)
    go None is at = absurd (none-some step at)
    go (Some m) is at = (m, is)
