-- What the look-ups of the code mean in the words of the rules.
use Rattle.std.proofs.Common.{◌≡◌, ◌+◌, ◌-◌, ℕ, Bool, true, false, List, Option, Some, None, cond, slice_get, nat_lt, eqb-true, refl, sym, ap, ◌∙◌}
use Rattle.std.proofs.lemmas.Bool.{ltb-true, lt-ltb}
use Rattle.vet_base.specs.Members.{IsAt}
use Rattle.app_machine.specs.declared.method.Act.{Act}
use Rattle.app_machine.specs.declared.method.Method.{Method}
use Rattle.app_machine.specs.declared.method.Step.{Step}
use Rattle.app_machine.specs.declared.app.App.{App}
use Rattle.fact_rows.specs.declared.context.Node.{Node}
use Rattle.flow_rules.specs.Nodes.{Acts, ArgumentRegister}
use Rattle.rule_ground.specs.Listing.{itself}
use Rattle.call_targets.specs.EnterGiven.{step_here, argument_of, argument_register, is_register}

-- the step at a node, and its act
module _ (app : App) (n : Node) where
  pub act_of : {step : Step} {a : Act} → step_here app n ≡ Some step → step.act ≡ a → Acts app n a
  act_of {step = step} there same = record { step = step; there = there; same = same }

  pub acts_once : (a b : Act) → Acts app n a → Acts app n b → a ≡ b
  acts_once a b h k = let e : h.step ≡ k.step = cc in sym h.same ∙ (ap (λ (s : Step). s.act) e ∙ k.same)

-- a register is the argument of the index
pub is_at : (args : List ℕ) (i x : ℕ) → is_register (slice_get args i) x ≡ true → IsAt args i x
is_at args i x t = by_read (slice_get args i) refl t
  where
    by_read : (o : Option ℕ) → slice_get args i ≡ o → is_register o x ≡ true → IsAt args i x
    by_read None e t = absurd cc
    by_read (Some y) e t = record { there = e ∙ ap (λ z. Some z) (eqb-true y x t) }

pub at_is : (args : List ℕ) (i x : ℕ) → IsAt args i x → is_register (slice_get args i) x ≡ true
at_is args i x h = ap (λ o. is_register o x) h.there ∙ itself x

-- the register that takes an argument
module _ (app : App) (body i z : ℕ) where
  pub takes : argument_register app body i ≡ Some z → ArgumentRegister app body i z
  takes h = by_method (slice_get app.methods body) refl h
    where
      by_ins : (m : Method) → slice_get app.methods body ≡ Some m → m.is_native ≡ false → (b : Bool) → nat_lt i m.ins ≡ b →
          cond b (Some ((m.registers - m.ins) + i)) None ≡ Some z → ArgumentRegister app body i z
      by_ins m e code true t k =
          let same : (m.registers - m.ins) + i ≡ z = cc in
          record { method = m; has = record { there = e; code = code }; below = ltb-true i m.ins t; is = sym same }
      by_ins m e code false t k = absurd cc

      by_code : (m : Method) → slice_get app.methods body ≡ Some m → (b : Bool) → m.is_native ≡ b →
          cond b None (cond (nat_lt i m.ins) (Some ((m.registers - m.ins) + i)) None) ≡ Some z → ArgumentRegister app body i z
      by_code m e true t k = absurd cc
      by_code m e false t k = by_ins m e t (nat_lt i m.ins) refl k

      by_method : (o : Option Method) → slice_get app.methods body ≡ o → argument_of o i ≡ Some z → ArgumentRegister app body i z
      by_method None e k = absurd cc
      by_method (Some m) e k = by_code m e m.is_native refl k

  pub taken : ArgumentRegister app body i z → argument_register app body i ≡ Some z
  taken a =
      let m = a.method in
      ap (λ o. argument_of o i) a.has.there
      ∙ (ap (λ b. cond b None (cond (nat_lt i m.ins) (Some ((m.registers - m.ins) + i)) None)) a.has.code
      ∙ (ap (λ b. cond b (Some ((m.registers - m.ins) + i)) None) (lt-ltb i m.ins a.below) ∙ ap (λ y. Some y) (sym a.is)))
