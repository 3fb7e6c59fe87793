-- How runs of the small apps end.
use Rattle.std.proofs.Common.{◌≡◌, ℕ, zero, suc, List, [], ◌∷◌, false, None, refl, subst}
use Rattle.app_machine.specs.declared.call.CallKind.TheVariants.{Static}
use Rattle.app_machine.specs.declared.component.Kind.TheVariants.{Activity}
use Rattle.app_machine.specs.declared.lists.SummaryId.TheVariants.{Row}
use Rattle.vet_base.specs.Members.{In}
use Rattle.app_machine.specs.Names.{Name, is_array, descriptor_of}
use Rattle.app_machine.specs.Lookups.{step_at, target, find_body, up, method_of, method_with, body_named, class_named, is_by_receiver}
use Rattle.app_machine.specs.Summaries.{library_key, summary, row_walk, library_classes, listed_above, listed_class, row_of}
use Rattle.app_machine.specs.Calls.{by_name}
use Rattle.app_machine.specs.LifeEvents.{life_events}
use Rattle.app_machine.specs.Events.{IsApplication}
use Rattle.machine_witness.specs.Apps.{main_class, device_class, net_class, step, clear_steps, clear_app, native_app, small_lists, jni}
use Rattle.machine_witness.specs.Ends.{ClearSiblingGoesOn, NativeIsReached, NotSafe}
use Rattle.app_machine.specs.declared.method.Act.TheVariants.{Call, Return}
use Rattle.machine_witness.proofs.Flowing.{by_take, by_blank, by_id, by_post_of_blank, Knows}
use Rattle.machine_witness.proofs.Beginning.{IsActivity, to_created}
use Rattle.machine_witness.proofs.Leaking.{leaks}
use Rattle.machine_witness.proofs.Looking.{stands_at_native}

clear_has_none : (a : ℕ) → IsApplication clear_app a → ⊥
unfolding clear_app
clear_has_none zero is = let same = is.there.there in let kind = is.kind in let none : ⊥ = cc in none
clear_has_none (suc a) is = let same = is.there.there in let none : ⊥ = cc in none

clear_is : IsActivity clear_app 0 3 clear_steps
unfolding clear_app life_events body_named method_with up descriptor_of
clear_is = record {
  made_at = record { component = record { kind = Activity; class = main_class }; there = record { there = refl }; of_class = refl; is_event = record { there = refl }; is_body = refl };
  created_at = record { component = record { kind = Activity; class = main_class }; there = record { there = refl }; of_class = refl; is_event = record { there = refl }; is_body = refl };
  no_application = clear_has_none;
  code = record { there = refl; code = refl };
}

clear_knows : Knows clear_app small_lists
unfolding clear_app small_lists target find_body up method_of is_by_receiver library_key summary row_walk library_classes class_named listed_above listed_class row_of is_array
clear_knows = record {
  id_used = λ heap f. record { class = device_class; goes = by_name refl refl; key = Row 0; is_key = refl; is_row = refl; plain = refl };
  post_used = λ heap f x. record { class = net_class; goes = by_name refl refl; key = Row 1; is_key = refl; is_row = refl; plain = refl };
}

pub clear_goes_on : ClearSiblingGoesOn
unfolding clear_app step_at
clear_goes_on = record {
  world = _;
  registers = _;
  run = by_post_of_blank (by_blank (by_take (by_id (to_created small_lists clear_is) clear_knows 3 refl) (0 ∷ []) 4 refl) (0 ∷ []) 5 refl) clear_knows 0 8 refl refl;
}

native_has_none : (a : ℕ) → IsApplication native_app a → ⊥
unfolding native_app
native_has_none zero is = let same = is.there.there in let kind = is.kind in let none : ⊥ = cc in none
native_has_none (suc a) is = let same = is.there.there in let none : ⊥ = cc in none

native_is : IsActivity native_app 1 3 (step 0 (Call Static jni []) (3 ∷ []) ∷ step 3 (Return None) [] ∷ [])
unfolding native_app life_events body_named method_with up descriptor_of
native_is = record {
  made_at = record { component = record { kind = Activity; class = main_class }; there = record { there = refl }; of_class = refl; is_event = record { there = refl }; is_body = refl };
  created_at = record { component = record { kind = Activity; class = main_class }; there = record { there = refl }; of_class = refl; is_event = record { there = refl }; is_body = refl };
  no_application = native_has_none;
  code = record { there = refl; code = refl };
}

pub native_is_reached : NativeIsReached
native_is_reached = record { world = _; frames = _; run = to_created small_lists native_is; stands = stands_at_native _ _ false [] }

-- a declaration without pairs has no pair
no_pair : (x : Name × Name) (pairs : List (Name × Name)) → pairs ≡ [] → In x pairs → ⊥
no_pair x pairs none h = subst (λ xs. In x xs) none h

pub not_safe : NotSafe
not_safe = record {
  leaks = λ declaration none safe. let d = safe.declared leaks.world leaks.frames leaks.run (record { label = 0; sink = 1; method = 0; pc = 4 }) leaks.arrives in no_pair (d.source_name, d.sink_name) declaration.pairs none d.pair;
  stands = λ declaration safe. safe.never_stands native_is_reached.world native_is_reached.frames native_is_reached.run 1 0 2 native_is_reached.stands;
}
