-- The steps of a scene without other methods, and where a register is not read.
use Rattle.std.proofs.Common.{◌≡◌, ◌≢◌, ◌==◌, ℕ, zero, suc, List, [], Some, sym, ap, subst, ◌∙◌}
use Rattle.std.specs.Prelude.{IsFalse}
use Rattle.std.specs.List.{AllByRecursion}
use Rattle.std.proofs.lemmas.Option.{none-some, same_Some}
use Rattle.vet_base.specs.Members.{In}
use Rattle.vet_base.proofs.Members.{in_found, each_in}
use Rattle.app_machine.specs.declared.method.Step.{Step}
use Rattle.app_machine.specs.declared.method.Act.{Act}
use Rattle.app_machine.specs.declared.app.App.{App}
use Rattle.app_machine.specs.Lookups.{step_at, ActAt, Goes, Catches}
use Rattle.app_machine.specs.State.{exception_register}
use Rattle.app_machine.specs.Local.{writes}
use Rattle.machine_witness.specs.Flows.{scene, activity_of}
use Rattle.cell_rules.specs.Reading.{ReadAt, read_here, read_next, read_caught}

module _ (steps : List Step) where
  in_steps : (method pc : ℕ) (s : Step) → step_at (activity_of (scene steps [])) method pc ≡ Some s → In s steps
  unfolding activity_of step_at
  in_steps zero pc s e = in_found (λ (t : Step). t.pc == pc) steps s e
  in_steps (suc method) pc s e = absurd (none-some s e)

  pub steps_are : (P : Step → Type 0) → AllByRecursion P steps → (method pc : ℕ) {s : Step} →
      step_at (activity_of (scene steps [])) method pc ≡ Some s → P s
  steps_are P all method pc {s} there = each_in P steps s all (in_steps method pc s there)

-- Where a register goes on only by steps and handlers that do not come to the place, it is not read there.
module _ (app : App) (method r place : ℕ) (no_next : (v : ℕ) (act : Act) → ActAt app method v act → IsFalse (writes act r) → Goes app method v place → ⊥) (no_handler : (v : ℕ) → IsFalse (r == exception_register) → Catches app method v place → ⊥) where
  pub never : (v u : ℕ) → ReadAt app method r v u → v ≢ place → u ≢ place
  never v u (read_here at read) apart = apart
  never v u (read_next {next = next} {act = act} at other goes more) apart =
      never next u more (λ same. no_next v act at other (subst (λ x. Goes app method v x) same goes))
  never v u (read_caught {next = next} other caught more) apart =
      never next u more (λ same. no_handler v other (subst (λ x. Catches app method v x) same caught))

-- the step that goes is the one that acts
pub same_act : {app : App} {method v to : ℕ} {act : Act} → ActAt app method v act → (goes : Goes app method v to) → goes.step.act ≡ act
same_act at goes = ap (λ (s : Step). s.act) (same_Some _ _ (sym goes.there ∙ at.there)) ∙ at.same
