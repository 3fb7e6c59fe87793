-- Where the machine stands.
use Rattle.std.proofs.Common.{ℕ, zero, suc, [], ◌∷◌, inl, Some, None, refl}
use Rattle.app_machine.specs.declared.call.CallKind.TheVariants.{Static}
use Rattle.app_machine.specs.declared.method.Act.TheVariants.{Call, New}
use Rattle.app_machine.specs.declared.component.Kind.TheVariants.{Activity}
use Rattle.app_machine.specs.Names.{is_array, descriptor_of, initialiser_name, initialiser_proto}
use Rattle.app_machine.specs.Lookups.{IsNative, HasCode, Initialises, step_at, target, find_body, up, method_of, method_with, body_named, class_named, is_by_receiver, initialisers, class_initialised, initialisers_from, initialiser_of}
use Rattle.app_machine.specs.Summaries.{library_key, summary, row_walk, library_classes, listed_above, listed_class, row_of, default_of}
use Rattle.app_machine.specs.Calls.{by_name}
use Rattle.app_machine.specs.LifeEvents.{life_events}
use Rattle.app_machine.specs.Events.{IsApplication, LifeEventAt, MayInitialise, is_born}
use Rattle.app_machine.specs.Run.{passes, native_body, begins_initialiser, start_world}
use Rattle.app_machine.specs.Safe.{without_row, at_reflection, native_initialiser, native_event, native_class}
use Rattle.machine_witness.specs.Apps.{main_class, step}
use Rattle.machine_witness.specs.Flows.{own_box}
use Rattle.machine_witness.specs.Standing.{mirror, odd, coded_app, bare_app, standing_lists, initialiser_body, StandsWhereNothingIsKnown, InitialisersComeFirst}
use Rattle.machine_witness.proofs.Acting.{act_of}
use Rattle.machine_witness.proofs.Beginning.{made}

coded_has_none : (a : ℕ) → IsApplication coded_app a → ⊥
unfolding coded_app
coded_has_none zero is = let same = is.there.there in let kind = is.kind in let none : ⊥ = cc in none
coded_has_none (suc a) is = let same = is.there.there in let none : ⊥ = cc in none

bare_has_none : (a : ℕ) → IsApplication bare_app a → ⊥
unfolding bare_app
bare_has_none zero is = let same = is.there.there in let kind = is.kind in let none : ⊥ = cc in none
bare_has_none (suc a) is = let same = is.there.there in let none : ⊥ = cc in none

coded_initialiser : MayInitialise coded_app start_world 0
unfolding coded_app initialisers_from initialiser_of initialiser_name initialiser_proto up method_of
coded_initialiser = record { c = 0; at = record { component = record { kind = Activity; class = main_class }; there = record { there = refl }; is_one = inl refl }; absent = refl; begins = λ a is. absurd (coded_has_none a is) }

bare_initialiser : MayInitialise bare_app start_world 0
unfolding bare_app initialisers_from initialiser_of initialiser_name initialiser_proto up method_of
bare_initialiser = record { c = 0; at = record { component = record { kind = Activity; class = main_class }; there = record { there = refl }; is_one = inl refl }; absent = refl; begins = λ a is. absurd (bare_has_none a is) }

bare_made : LifeEventAt bare_app 0 0 main_class made (Some 1)
unfolding bare_app life_events body_named method_with up descriptor_of
bare_made = record { component = record { kind = Activity; class = main_class }; there = record { there = refl }; of_class = refl; is_event = record { there = refl }; is_body = refl }

box_is_initialised : Initialises coded_app 1 2 2
unfolding coded_app step_at initialisers class_initialised initialisers_from initialiser_of initialiser_name initialiser_proto up method_of
box_is_initialised = record { act = New 0 own_box None; at = record { step = _; there = refl; same = refl }; is_one = inl refl }

box_native : IsNative coded_app 2
unfolding coded_app
box_native = record { method = _; there = refl; native = refl }

bare_native : IsNative bare_app 0
unfolding bare_app
bare_native = record { method = _; there = refl; native = refl }

made_native : IsNative bare_app 1
unfolding bare_app
made_native = record { method = _; there = refl; native = refl }

has_initialiser : HasCode coded_app 0 initialiser_body
unfolding coded_app
has_initialiser = record { there = refl; code = refl }

pub stands_there : StandsWhereNothingIsKnown
unfolding coded_app standing_lists step_at target find_body up method_of is_by_receiver library_key summary row_walk library_classes class_named listed_above listed_class row_of default_of is_array
stands_there = record {
  without_row = λ w r fs. without_row (act_of (step 0 (Call Static odd []) (1 ∷ [])) refl) (by_name refl refl) refl;
  at_reflection = λ w r fs. at_reflection (act_of (step 1 (Call Static mirror []) (2 ∷ [])) refl) (by_name refl refl) refl refl refl;
  at_initialiser = λ w r fs. native_initialiser box_is_initialised box_native;
  at_event = native_event (is_born bare_made refl refl (λ a is. absurd (bare_has_none a is))) made_native;
  at_class = native_class bare_initialiser bare_native;
}

pub comes_first : InitialisersComeFirst
comes_first = record {
  registers = _;
  initialiser = begins_initialiser coded_initialiser has_initialiser;
  native_event = passes (is_born bare_made refl refl (λ a is. absurd (bare_has_none a is))) (native_body made_native);
}
