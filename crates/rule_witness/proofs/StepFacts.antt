-- Rules 1 to 21 give their rows.
use Rattle.std.proofs.Common.{◌≡◌, ◌≢◌, ℕ, suc, [], ◌∷◌, inl, Some, refl, arith}
use Rattle.std.specs.Prelude.{codes}
use Rattle.access_path.specs.Paths.{cut, rest, empty_path}
use Rattle.app_machine.specs.declared.method.Step.{Step}
use Rattle.app_machine.specs.declared.method.Act.TheVariants.{Skip, Join, Move, New, Fill, Get, Put, GetStatic, PutStatic, Return, Throw, TakeResult, TakeException}
use Rattle.app_machine.specs.declared.component.Kind.TheVariants.{Activity}
use Rattle.vet_base.specs.Members.{In}
use Rattle.app_machine.specs.Names.{descriptor_of}
use Rattle.app_machine.specs.Lookups.{ActAt, Goes, Catches, step_at, body_named, method_with, up}
use Rattle.app_machine.specs.LifeEvents.{life_events}
use Rattle.app_machine.specs.Events.{LifeEventAt}
use Rattle.flow_rules.specs.LocalRules.{reach_next, reach_caught, keep_points, keep_taint, keep_points_caught, keep_taint_caught, move_points, move_taint, result_points, result_taint, exception_points, exception_taint, join_taint, new_points, new_taint, fill_points, fill_cell, fill_taint, get_points, get_taint, put_cell, put_effect, get_static_points, get_static_taint, get_static_source, put_static_points, put_static_taint, throw_points, throw_taint, throw_exit_points, throw_exit_taint, return_points, return_taint, cell_back}
use Rattle.flow_rules.specs.EffectRules.{lift_effect, effect_next, effect_caught, method_effect, caller_effect, effect_static, effect_handed, effect_own, effect_other}
use Rattle.flow_rules.specs.Rules.{by_local, by_effect}
use Rattle.rule_witness.specs.Smallest.{main_class}
use Rattle.rule_witness.specs.StepFacts.{does, tries, field_key, ints, acts_app, StepRulesHold, EffectRulesHold}

acts : {pc : ℕ} (s : Step) → step_at acts_app 0 pc ≡ Some s → ActAt acts_app 0 pc s.act
acts s there = record { step = s; there = there; same = refl }

goes : {pc to : ℕ} (s : Step) → step_at acts_app 0 pc ≡ Some s → In to s.next → Goes acts_app 0 pc to
goes s there next = record { step = s; there = there; next = next }

caught : {pc to : ℕ} (s : Step) → step_at acts_app 0 pc ≡ Some s → In to s.catches → Catches acts_app 0 pc to
caught s there catch = record { step = s; there = there; catch = catch }

-- the steps
abbrev s0 : Step
s0 = tries 0 Skip (1 ∷ [])

abbrev s1 : Step
s1 = does 1 (Move (2 ∷ []) 1) (2 ∷ [])

abbrev s2 : Step
s2 = does 2 (TakeResult (2 ∷ [])) (3 ∷ [])

abbrev s3 : Step
s3 = does 3 (TakeException 2) (4 ∷ [])

abbrev s4 : Step
s4 = does 4 (Join (2 ∷ []) (1 ∷ [])) (5 ∷ [])

abbrev s5 : Step
s5 = does 5 (New 2 ints (Some 1)) (6 ∷ [])

abbrev s6 : Step
s6 = does 6 (Fill (1 ∷ []) ints) (7 ∷ [])

abbrev s7 : Step
s7 = does 7 (Get (2 ∷ []) 1 field_key) (8 ∷ [])

abbrev s8 : Step
s8 = tries 8 (Put 1 field_key 2) (9 ∷ [])

abbrev s9 : Step
s9 = does 9 (GetStatic (2 ∷ []) 0) (10 ∷ [])

abbrev s10 : Step
s10 = does 10 (PutStatic 0 1) (11 ∷ [])

abbrev s11 : Step
s11 = tries 11 (Throw 1) []

abbrev s12 : Step
s12 = does 12 (Return (Some 1)) []

first_rest : rest (cut field_key empty_path) field_key ≡ Some empty_path
unfolding rest cut
first_rest = refl

pub step_rules_hold : StepRulesHold
unfolding acts_app step_at
step_rules_hold lists c s t p l = record {
  goes_on = by_local (reach_next (goes s0 refl (inl refl)));
  goes_to_handler = by_local (reach_caught (caught s0 refl (inl refl)));
  keeps_site = by_local (keep_points (acts s0 refl) refl (goes s0 refl (inl refl)));
  keeps_label = by_local (keep_taint (acts s0 refl) refl (goes s0 refl (inl refl)));
  keeps_site_to_handler = by_local (keep_points_caught refl (caught s0 refl (inl refl)));
  keeps_label_to_handler = by_local (keep_taint_caught refl (caught s0 refl (inl refl)));
  moves_site = by_local (move_points 2 (acts s1 refl) (inl refl) (goes s1 refl (inl refl)));
  moves_label = by_local (move_taint 2 (acts s1 refl) (inl refl) (goes s1 refl (inl refl)));
  takes_result_site = by_local (result_points 2 (acts s2 refl) (inl refl) (goes s2 refl (inl refl)));
  takes_result_label = by_local (result_taint 2 (acts s2 refl) (inl refl) (goes s2 refl (inl refl)));
  takes_exception_site = by_local (exception_points (acts s3 refl) (goes s3 refl (inl refl)));
  takes_exception_label = by_local (exception_taint (acts s3 refl) (goes s3 refl (inl refl)));
  joins = by_local (join_taint 2 1 (acts s4 refl) (inl refl) (inl refl) refl (goes s4 refl (inl refl)));
  makes = by_local (new_points (acts s5 refl) (goes s5 refl (inl refl)));
  sizes = by_local (new_taint (acts s5 refl) refl (goes s5 refl (inl refl)));
  fills = by_local (fill_points (acts s6 refl) (goes s6 refl (inl refl)));
  fills_site = by_local (fill_cell 1 (acts s6 refl) (inl refl));
  fills_label = by_local (fill_taint 1 (acts s6 refl) (inl refl) (goes s6 refl (inl refl)));
  gets_site = by_local (get_points 2 (acts s7 refl) (inl refl) (goes s7 refl (inl refl)));
  gets_label = by_local (get_taint 2 (acts s7 refl) (inl refl) first_rest (goes s7 refl (inl refl)));
  puts_site = by_local (put_cell (acts s8 refl));
  puts_label = by_local (put_effect (acts s8 refl));
  gets_static_site = by_local (get_static_points 2 (acts s9 refl) (inl refl) (goes s9 refl (inl refl)));
  gets_static_label = by_local (get_static_taint 2 (acts s9 refl) (inl refl) (goes s9 refl (inl refl)));
  gets_static_source = λ is. by_local (get_static_source 2 (acts s9 refl) (inl refl) is (goes s9 refl (inl refl)));
  puts_static_site = by_local (put_static_points (acts s10 refl));
  puts_static_label = by_local (put_static_taint (acts s10 refl));
  throws_site = by_local (throw_points (acts s11 refl) (caught s11 refl (inl refl)));
  throws_label = by_local (throw_taint (acts s11 refl) (caught s11 refl (inl refl)));
  throws_site_out = by_local (throw_exit_points (acts s11 refl));
  throws_label_out = by_local (throw_exit_taint (acts s11 refl));
  returns_site = by_local (return_points (acts s12 refl));
  returns_label = by_local (return_taint (acts s12 refl));
  is_held = by_local cell_back;
}

created_at : LifeEventAt acts_app 0 1 main_class (record { from = 1; name = codes "onCreate"; descriptor = codes "(Landroid/os/Bundle;)V"; to = 2 }) (Some 0)
unfolding acts_app life_events body_named method_with up descriptor_of
created_at = record { component = record { kind = Activity; class = main_class }; there = record { there = refl }; of_class = refl; is_event = record { there = refl }; is_body = refl }

not_zero : (n : ℕ) → suc n ≢ 0
not_zero n e = let none : ⊥ = omega arith in none

pub effect_rules_hold : EffectRulesHold
unfolding acts_app step_at
effect_rules_hold lists c s t p l = record {
  lifts = by_effect lift_effect;
  comes_to_register = by_effect (effect_next (goes s8 refl (inl refl)));
  comes_to_handler = by_effect (effect_caught (caught s8 refl (inl refl)));
  is_of_activation = by_effect method_effect;
  comes_to_caller = λ b. by_effect caller_effect;
  comes_to_static = by_effect effect_static;
  comes_to_handed = by_effect effect_handed;
  comes_to_own = by_effect (effect_own created_at (not_zero 1));
  comes_to_other = by_effect (effect_other tt (not_zero 3));
}
