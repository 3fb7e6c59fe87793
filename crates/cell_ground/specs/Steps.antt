-- The step at a node.
use Rattle.std.proofs.Common.{◌≡◌, ◌==◌, ℕ, Option, Some, None, find, slice_get, refl, subst}
use Rattle.std.proofs.lemmas.Bool.{eqb-true}
use Rattle.app_machine.specs.declared.method.Act.{Act}
use Rattle.app_machine.specs.declared.method.Method.{Method}
use Rattle.app_machine.specs.declared.method.Step.{Step}
use Rattle.app_machine.specs.declared.app.App.{App}
use Rattle.vet_base.specs.Members.{In}
use Rattle.app_machine.specs.Lookups.{step_at}
use Rattle.fact_rows.specs.declared.context.Node.{Node}
use Rattle.flow_rules.specs.Nodes.{Acts, GoesOn, CaughtAt}
use Rattle.vet_base.proofs.Members.{in_found, found_passes}

abbrev pub step_here : App → Node → Option Step
step_here app n = step_at app n.by.method n.pc

module _ (app : App) (n : Node) where
  -- what it does, where control goes on from it, and where what it raises is caught
  pub act_of : {step : Step} {a : Act} → step_here app n ≡ Some step → step.act ≡ a → Acts app n a
  act_of {step = step} there same = record { step = step; there = there; same = same }

  pub next_of : {step : Step} {pc : ℕ} → step_here app n ≡ Some step → In pc step.next → GoesOn app n pc
  next_of {step = step} there i = record { step = step; there = there; next = i }

  pub catch_of : {step : Step} {pc : ℕ} → step_here app n ≡ Some step → In pc step.catches → CaughtAt app n pc
  catch_of {step = step} there i = record { step = step; there = there; catch = i }

  -- a node has one step
  pub next_in : {pc : ℕ} {a : Act} (h : Acts app n a) → GoesOn app n pc → In pc h.step.next
  next_in {pc = pc} h g = let e : g.step ≡ h.step = cc in subst (λ (s : Step). In pc s.next) e g.next

  pub catch_in : {pc : ℕ} {a : Act} (h : Acts app n a) → CaughtAt app n pc → In pc h.step.catches
  catch_in {pc = pc} h g = let e : g.step ≡ h.step = cc in subst (λ (s : Step). In pc s.catches) e g.catch

-- it is one of the node's method
pub record StepStands (app : App) (n : Node) (step : Step) : Type 0 where
  pub method : Method
  pub there : slice_get app.methods n.by.method ≡ Some method
  pub is_step : In step method.steps
  pub same_pc : step.pc ≡ n.pc

pub step_stands : (app : App) (n : Node) (step : Step) → step_here app n ≡ Some step → StepStands app n step
unfolding step_at
step_stands app n step h = of_method (slice_get app.methods n.by.method) refl h
  where
    of_method : (o : Option Method) → slice_get app.methods n.by.method ≡ o →
        elim o [ None ↦ None | Some m ↦ find (λ (s : Step). s.pc == n.pc) m.steps ] ≡ Some step → StepStands app n step
    of_method None e k = absurd cc
    of_method (Some m) e k =
        record { method = m; there = e; is_step = in_found (λ (s : Step). s.pc == n.pc) m.steps step k; same_pc = eqb-true step.pc n.pc (found_passes (λ (s : Step). s.pc == n.pc) m.steps step k) }
