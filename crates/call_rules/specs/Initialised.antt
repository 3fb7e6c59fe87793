-- Which activations are of initialisers that may run before a step, and which contents are passed.
use Rattle.std.proofs.Common.{◌≡◌, ◌≢◌, ◌⊎◌, ◌==◌, ◌&&◌, ℕ, Bool, true, false, cond, eq-eqb, refl, sym, ap, subst, ◌∙◌, inl, inr}
use Rattle.std.proofs.lemmas.Bool.{and_parts, and_from, ne_eqb}
use Rattle.vet_base.specs.Members.{In}
use Rattle.app_machine.specs.declared.method.Act.{Act}
use Rattle.app_machine.specs.declared.app.App.{App}
use Rattle.app_machine.specs.Lookups.{initialisers}
use Rattle.app_machine.specs.State.{holds}
use Rattle.fact_rows.specs.declared.context.Activation.{Activation}
use Rattle.fact_rows.specs.declared.context.Node.{Node}
use Rattle.fact_rows.specs.contracts.context.ActivationPartialEq.TheImpl.{ghosts as activation_eq}
use Rattle.fact_rows.specs.contracts.context.ActivationEq.TheImpl.Laws.{laws-law as activation_laws}
use Rattle.flow_rules.specs.Nodes.{callee, Acts, InitialisedBy}
use Rattle.rule_ground.specs.Same.{activation_same}
use Rattle.rule_ground.specs.Listing.{holds_in, in_holds}
use Rattle.call_targets.specs.Meaning.{acts_once}
use Rattle.call_rules.specs.PassGiven.{is_initialised}

-- the target does not hang on the objects of the argument
pub may_pass : (b : Bool) (i : ℕ) → cond (b && i == 0) false true ≡ true → (b ≡ false) ⊎ (i ≢ 0)
may_pass false i h = inl refl
may_pass true i h = inr (λ zero.
    let t : i == 0 ≡ true = eq-eqb i 0 zero in
    let f : cond (i == 0) false true ≡ false = ap (λ z. cond z false true) t in
    absurd cc)

pub passes : (b : Bool) (i : ℕ) → (b ≡ false) ⊎ (i ≢ 0) → cond (b && i == 0) false true ≡ true
passes b i (inl f) = ap (λ z. cond (z && i == 0) false true) f
passes true i (inr ne) = ap (λ z. cond z false true) (ne_eqb i 0 ne)
passes false i (inr ne) = refl

-- the activation is of an initialiser that may run before the step
module _ (app : App) (n : Node) (a : Act) (b : Activation) (h : Acts app n a) where
  pub initialised_by : is_initialised app n a b ≡ true → InitialisedBy app n b
  initialised_by t =
      let both = and_parts (holds (initialisers app a) b.method) (activation_eq.eq b (callee n b.method)) t in
      record {
        body = b.method;
        is_one = record { act = a; at = h; is_one = holds_in b.method (initialisers app a) both.0 };
        same = activation_same b (callee n b.method) both.1;
      }

  pub is_one : InitialisedBy app n b → is_initialised app n a b ≡ true
  is_one k =
      let same_act : k.is_one.act ≡ a = acts_once app n k.is_one.act a k.is_one.at h in
      let same_body : k.body ≡ b.method = ap (λ (c : Activation). c.method) (sym k.same) in
      let of_act : In b.method (initialisers app k.is_one.act) =
      subst (λ y. In y (initialisers app k.is_one.act)) same_body k.is_one.is_one in
      let among : In b.method (initialisers app a) = subst (λ w. In b.method (initialisers app w)) same_act of_act in
      let callee_is : b ≡ callee n b.method = k.same ∙ ap (callee n) same_body in
      and_from (holds (initialisers app a) b.method) (activation_eq.eq b (callee n b.method))
      (in_holds b.method (initialisers app a) among)
      (subst (λ c. activation_eq.eq b c ≡ true) callee_is (activation_laws.refl b))

  pub none_ran : is_initialised app n a b ≡ false → InitialisedBy app n b → ⊥
  none_ran f k = let t : is_initialised app n a b ≡ true = is_one k in cc

  pub is_none : (InitialisedBy app n b → ⊥) → is_initialised app n a b ≡ false
  is_none none = by_test (is_initialised app n a b) refl
    where
      by_test : (c : Bool) → is_initialised app n a b ≡ c → c ≡ false
      by_test true t = absurd (none (initialised_by t))
      by_test false f = refl
