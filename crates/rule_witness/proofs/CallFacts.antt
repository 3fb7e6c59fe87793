-- Rules 22 to 29 give their rows.
use Rattle.std.proofs.Common.{◌≡◌, ℕ, [], ◌∷◌, inl, inr, Option, Some, refl, ap, sym, ◌∙◌, subst, lit<, arith}
use Rattle.app_machine.specs.declared.call.CallKind.TheVariants.{Static, Virtual}
use Rattle.app_machine.specs.declared.method.Step.{Step}
use Rattle.app_machine.specs.declared.method.Act.{Act}
use Rattle.app_machine.specs.declared.method.Act.TheVariants.{Call}
use Rattle.app_machine.specs.declared.method.Method.{Method}
use Rattle.vet_base.specs.Members.{In}
use Rattle.app_machine.specs.Names.{is_array, initialiser_name, initialiser_proto}
use Rattle.app_machine.specs.Lookups.{HasCode, IsNative, ActAt, Goes, Catches, Initialises, step_at, target, find_body, up, method_of, class_named, is_by_receiver, initialisers, class_initialised, initialisers_from, initialiser_of}
use Rattle.app_machine.specs.Summaries.{library_key, summary, row_walk, library_classes, listed_above, listed_class, row_of, default_of}
use Rattle.fact_rows.specs.declared.context.Ctx.{Ctx}
use Rattle.fact_rows.specs.declared.context.Activation.{Activation}
use Rattle.fact_rows.specs.declared.site.Site.TheVariants.{Component}
use Rattle.flow_rules.specs.Nodes.{ArgumentRegister, InitialisedBy}
use Rattle.flow_rules.specs.Sites.{SiteClass, site_class}
use Rattle.flow_rules.specs.CallRules.{enter_direct, enter_class, enter_receiver, pass_points, pass_taint, returned_points, returned_taint, caught_points, caught_taint, unwound_points, unwound_taint, use_by_name, use_by_class, enter_initialiser, initialiser_taint, calls_it, is_called, reaches_it, is_native, finds_none, finds_reflection, finds_row}
use Rattle.flow_rules.specs.Rules.{by_call}
use Rattle.rule_witness.specs.Smallest.{main_class}
use Rattle.rule_witness.specs.StepFacts.{does, tries}
use Rattle.rule_witness.specs.CallFacts.{jni, pass, turn_above, plain, mirror, size, odd, calls_app, calls_lists, call_at, passes, CallRulesHold}

acts : {pc : ℕ} (s : Step) → step_at calls_app 2 pc ≡ Some s → ActAt calls_app 2 pc s.act
acts s there = record { step = s; there = there; same = refl }

goes : {pc to : ℕ} (s : Step) → step_at calls_app 2 pc ≡ Some s → In to s.next → Goes calls_app 2 pc to
goes s there next = record { step = s; there = there; next = next }

caught : {pc to : ℕ} (s : Step) → step_at calls_app 2 pc ≡ Some s → In to s.catches → Catches calls_app 2 pc to
caught s there catch = record { step = s; there = there; catch = catch }

abbrev to_pass : Step
to_pass = tries 0 (Call Static pass (1 ∷ [])) (1 ∷ [])

abbrev pub to_turn : Step
to_turn = does 1 (Call Virtual turn_above (1 ∷ [])) (2 ∷ [])

at_pass : step_at calls_app 2 0 ≡ Some to_pass
unfolding calls_app step_at
at_pass = refl

pub at_turn : step_at calls_app 2 1 ≡ Some to_turn
unfolding calls_app step_at
at_turn = refl

-- the bodies, and the registers of their arguments
record Bodies : Type 0 where
  initialiser : Method
  has_initialiser : HasCode calls_app 0 initialiser
  is_jni : IsNative calls_app 1
  pass : Method
  has_pass : HasCode calls_app 3 pass
  turn : Method
  has_turn : HasCode calls_app 4 turn
  of_pass : ArgumentRegister calls_app 3 0 0
  of_turn : ArgumentRegister calls_app 4 0 0

bodies : Bodies
unfolding calls_app
bodies = record {
  initialiser = _;
  has_initialiser = record { there = refl; code = refl };
  is_jni = record { method = _; there = refl; native = refl };
  pass = _;
  has_pass = record { there = refl; code = refl };
  turn = _;
  has_turn = record { there = refl; code = refl };
  of_pass = record { method = _; has = record { there = refl; code = refl }; below = lit< tt; is = refl };
  of_turn = record { method = _; has = record { there = refl; code = refl }; below = lit< tt; is = refl };
}

the_class : SiteClass calls_app calls_lists (Component 0) main_class
unfolding calls_app site_class
the_class = record { is_class = refl }

-- the one initialiser before the first call is the class's own
pub own : Initialises calls_app 2 0 0
unfolding calls_app step_at initialisers class_initialised initialisers_from initialiser_of initialiser_name initialiser_proto up method_of
own = record { act = Call Static pass (1 ∷ []); at = record { step = _; there = refl; same = refl }; is_one = inl refl }

only_own : initialisers calls_app (Call Static pass (1 ∷ [])) ≡ 0 ∷ []
unfolding calls_app initialisers class_initialised initialisers_from initialiser_of initialiser_name initialiser_proto up method_of
only_own = refl

is_call : (act : Act) → ActAt calls_app 2 0 act → Call Static pass (1 ∷ []) ≡ act
is_call act a = let both : ◌≡◌ {A = Option Step} (Some to_pass) (Some a.step) = sym at_pass ∙ a.there in let same : to_pass ≡ a.step = cc in ap (λ (s : Step). s.act) same ∙ a.same

initialised_is_zero : (body : ℕ) → Initialises calls_app 2 0 body → body ≡ 0
initialised_is_zero body i = elim (subst (λ xs. In body xs) only_own (subst (λ act. In body (initialisers calls_app act)) (sym (is_call i.act i.at)) i.is_one)) [ inl e ↦ e | inr none ↦ absurd none ]

is_no_initialiser : (c : Ctx) → InitialisedBy calls_app (call_at c 0) (passes c) → ⊥
is_no_initialiser c i =
    let zero_body : i.body ≡ 0 = initialised_is_zero i.body i.is_one in
    let method : 3 ≡ i.body = ap (λ (b : Activation). b.method) i.same in
    let none : ⊥ = omega (arith, zero_body, method) in
    none

pub call_rules_hold : CallRulesHold
unfolding calls_app calls_lists step_at target find_body up method_of class_named is_by_receiver library_key summary row_walk library_classes listed_above listed_class row_of default_of is_array
call_rules_hold c s p l = record {
  enters = by_call (enter_direct (acts to_pass refl) refl refl (calls_it bodies.has_pass));
  is_entered = by_call (enter_direct (acts to_pass refl) refl refl (is_called bodies.has_pass));
  reaches = by_call (enter_direct (acts to_pass refl) refl refl (reaches_it bodies.has_pass));
  is_native = by_call (enter_direct (acts (does 2 (Call Static jni []) (3 ∷ [])) refl) refl refl (is_native bodies.is_jni));
  enters_by_class = by_call (enter_class (acts to_turn refl) refl (record { there = refl }) the_class refl (calls_it bodies.has_turn));
  is_receiver = by_call (enter_receiver (acts to_turn refl) refl (record { there = refl }) the_class refl bodies.of_turn);
  passes_site = by_call (pass_points 0 (acts to_pass refl) (record { there = refl }) (inl refl) (is_no_initialiser c) bodies.of_pass);
  passes_label = by_call (pass_taint 0 (acts to_pass refl) (record { there = refl }) (is_no_initialiser c) bodies.of_pass);
  returns_site = by_call (returned_points (goes to_pass refl (inl refl)));
  returns_label = by_call (returned_taint (goes to_pass refl (inl refl)));
  catches_site = by_call (caught_points (caught to_pass refl (inl refl)));
  catches_label = by_call (caught_taint (caught to_pass refl (inl refl)));
  unwinds_site = by_call unwound_points;
  unwinds_label = by_call unwound_taint;
  uses_row = by_call (use_by_name (acts (does 3 (Call Static plain []) (4 ∷ [])) refl) refl (finds_row refl refl refl));
  has_no_row = by_call (use_by_name (acts (does 4 (Call Static odd []) (5 ∷ [])) refl) refl (finds_none refl));
  has_reflective_row = by_call (use_by_name (acts (does 5 (Call Static mirror []) (6 ∷ [])) refl) refl (finds_reflection refl refl refl));
  uses_row_by_class = by_call (use_by_class (acts (does 6 (Call Virtual size (1 ∷ [])) (7 ∷ [])) refl) refl (record { there = refl }) the_class refl (finds_row refl refl refl));
  enters_initialiser = by_call (enter_initialiser own (calls_it bodies.has_initialiser));
  initialiser_effect = by_call (initialiser_taint (record { body = 0; is_one = own; same = refl }));
}
