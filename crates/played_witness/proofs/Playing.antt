-- The small apps, played.
use Rattle.std.proofs.Common.{refl}
use Rattle.app_machine.specs.LifeEvents.{life_events}
use Rattle.app_machine.specs.Lookups.{class_named, up, method_of, find_body, method_with, body_named, superclass_of_caller, target, is_by_receiver, initialisers_from, initialiser_of, class_initialised, initialisers, step_at}
use Rattle.app_machine.specs.Names.{descriptor_of, is_reference, is_array, is_wide, is_void, initialiser_name, initialiser_proto}
use Rattle.app_machine.specs.Events.{layout}
use Rattle.app_machine.specs.Library.{positions, shared_class}
use Rattle.app_machine.specs.Summaries.{library_key, summary, row_walk, library_classes, listed_above, listed_class, row_of, default_of}
use Rattle.app_model.specs.EventBodies.{life_event, component_callback, click, handed_callback}
use Rattle.app_model.specs.Initialisers.{component_initialisers}
use Rattle.machine_witness.specs.Apps.{leaking_app, clear_app, native_app, small_lists}
use Rattle.played_machine.specs.Calling.{code_of, is_native_body, call_target, called_row}
use Rattle.played_machine.specs.Coming.{may_begin, component_events, handed_events, events, begun}
use Rattle.played_machine.specs.Drawing.{one_of}
use Rattle.played_machine.specs.Drawn.{drawn}
use Rattle.played_machine.specs.Librarian.{joined_labels, added, library_call}
use Rattle.played_machine.specs.Local.{got, local}
use Rattle.played_machine.specs.Ordered.{ascending}
use Rattle.played_machine.specs.Reading.{class_at, entries_at, values_at, handed_places, reached}
use Rattle.played_machine.specs.Standing.{stands_of}
use Rattle.played_machine.specs.Step.{ways, step}
use Rattle.played_witness.specs.Runs.{SmallAppsPlay}

pub played : SmallAppsPlay
unfolding life_events class_named up method_of find_body method_with body_named superclass_of_caller target is_by_receiver initialisers_from initialiser_of class_initialised initialisers step_at descriptor_of is_reference is_array is_wide is_void initialiser_name initialiser_proto layout positions shared_class library_key summary row_walk library_classes listed_above listed_class row_of default_of life_event component_callback click handed_callback component_initialisers leaking_app clear_app native_app small_lists code_of is_native_body call_target called_row may_begin component_events handed_events events begun one_of drawn joined_labels added library_call got local ascending class_at entries_at values_at handed_places reached stands_of ways step
played = record {
  leak = record { steps_made = refl; arrived = refl; stands_here = refl };
  cut = record { steps_made = refl; arrived = refl; stands_here = refl };
  nothing = record { steps_made = refl; arrived = refl; stands_here = refl };
  clear = record { steps_made = refl; arrived = refl; stands_here = refl };
  raises = record { steps_made = refl; arrived = refl; stands_here = refl };
  stands = record { steps_made = refl; arrived = refl; stands_here = refl };
  stands_at_native = record { steps_made = refl; arrived = refl; stands_here = refl };
}
