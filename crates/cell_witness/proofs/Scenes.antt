-- What the steps of a scene without other methods are, and the registers of its one body.
use Rattle.std.proofs.Common.{◌≡◌, ◌==◌, ℕ, zero, suc, ◌+◌, ◌-◌, ◌≤◌, List, [], Some, sym, subst, arith}
use Rattle.std.specs.List.{AllByRecursion}
use Rattle.std.proofs.lemmas.Bool.{eqb-true}
use Rattle.std.proofs.lemmas.Option.{none-some, same_Some}
use Rattle.vet_base.specs.Members.{In}
use Rattle.vet_base.proofs.Members.{in_found, found_passes, each_in}
use Rattle.app_machine.specs.declared.method.Step.{Step}
use Rattle.app_machine.specs.declared.method.Method.{Method}
use Rattle.app_machine.specs.declared.method.Act.{Act}
use Rattle.app_machine.specs.Lookups.{step_at, ActAt, HasCode}
use Rattle.flow_rules.specs.Nodes.{ArgumentRegister, EventRegister}
use Rattle.machine_witness.specs.Flows.{created_by, scene, activity_of}

-- each act of the steps
abbrev pub AllActs : (Act → Type 0) → List Step → Type 0
AllActs P steps = AllByRecursion (λ (s : Step). P s.act) steps

module _ (steps : List Step) where
  in_steps : (method pc : ℕ) (s : Step) → step_at (activity_of (scene steps [])) method pc ≡ Some s → In s steps
  unfolding activity_of step_at
  in_steps zero pc s e = in_found (λ (t : Step). t.pc == pc) steps s e
  in_steps (suc method) pc s e = absurd (none-some s e)

  pub steps_are : (P : Step → Type 0) → AllByRecursion P steps → (method pc : ℕ) {s : Step} →
      step_at (activity_of (scene steps [])) method pc ≡ Some s → P s
  steps_are P all method pc {s} there = each_in P steps s all (in_steps method pc s there)

  pub acts_are : (P : Act → Type 0) → AllActs P steps → {method pc : ℕ} {act : Act} → ActAt (activity_of (scene steps [])) method pc act → P act
  acts_are P all {method} {pc} at = subst P at.same (steps_are (λ (s : Step). P s.act) all method pc at.there)

  same_pc : (method pc : ℕ) (s : Step) → step_at (activity_of (scene steps [])) method pc ≡ Some s → s.pc ≡ pc
  unfolding activity_of step_at
  same_pc zero pc s e = eqb-true s.pc pc (found_passes (λ (t : Step). t.pc == pc) steps s e)
  same_pc (suc method) pc s e = absurd (none-some s e)

  -- and with the address of the step
  pub acts_at : (P : ℕ → Act → Type 0) → AllByRecursion (λ (s : Step). P s.pc s.act) steps → {method pc : ℕ} {act : Act} →
      ActAt (activity_of (scene steps [])) method pc act → P pc act
  acts_at P all {method} {pc} at =
      subst (P pc) at.same (subst (λ q. P q at.step.act) (same_pc method pc at.step at.there) (steps_are (λ (s : Step). P s.pc s.act) all method pc at.there))

  code_is : (body : ℕ) (m : Method) → HasCode (activity_of (scene steps [])) body m → created_by steps ≡ m
  unfolding activity_of
  code_is zero m has = same_Some (created_by steps) m has.there
  code_is (suc body) m has = absurd (none-some m has.there)

  -- arguments are behind the body's own three registers
  behind : (m : Method) (i z : ℕ) → created_by steps ≡ m → z ≡ (m.registers - m.ins) + i → 3 ≤ z
  behind m i z same is = let of_created : z ≡ (5 - 2) + i = subst (λ (x : Method). z ≡ (x.registers - x.ins) + i) (sym same) is in omega arith

  pub argument_behind : {body i z : ℕ} → ArgumentRegister (activity_of (scene steps [])) body i z → 3 ≤ z
  argument_behind {body} {i} {z} at = behind at.method i z (code_is body at.method at.has) at.is

  pub event_behind : {body i z : ℕ} → EventRegister (activity_of (scene steps [])) body i z → 3 ≤ z
  event_behind {body} {z = z} at = behind at.method at.index z (code_is body at.method at.has) at.is
