-- Each look-up computes.
use Rattle.std.proofs.Common.{refl}
use Rattle.app_machine.specs.Events.{layout}
use Rattle.app_machine.specs.LifeEvents.{life_events}
use Rattle.app_machine.specs.Library.{positions}
use Rattle.app_machine.specs.Lookups.{target, find_body, up, method_of, class_named, lists_bare, all_above, body_named, method_with, initialisers, class_initialised, initialisers_from, initialiser_of}
use Rattle.app_machine.specs.Names.{descriptor_of, click_descriptor, initialiser_name, initialiser_proto, is_array, is_reference, array_types, is_wide, object_class}
use Rattle.app_machine.specs.Summaries.{library_key, row_walk, library_classes, listed_above, listed_class, listed_static, row_of, default_of, static_source}
use Rattle.app_index.specs.Handed.{handed_rows}
use Rattle.app_model.specs.Above.{is_below, is_class_below, is_array_below, is_among, is_listed_below, any_listed_below, has_below}
use Rattle.app_model.specs.EventBodies.{click, component_callback, handed_callback}
use Rattle.lookup_witness.specs.Shapes.{shapes}
use Rattle.lookup_witness.specs.AppFacts.{AppIsLookedUp, callback_lists, event_lists}
use Rattle.lookup_witness.specs.IndexFacts.{ListsAreLookedUp, StaticsAreLookedUp, row_lists}
use Rattle.lookup_witness.specs.PartFacts.{PartsAreTold}
use Rattle.lookup_witness.proofs.Linking.{links}
use Rattle.lookup_witness.proofs.Sound.{sound_events, sound_lists, sound_shapes}

pub app_is_looked_up : AppIsLookedUp
unfolding shapes callback_lists event_lists target find_body up method_of class_named lists_bare all_above body_named method_with initialisers class_initialised initialisers_from initialiser_of descriptor_of click_descriptor initialiser_name initialiser_proto is_reference array_types object_class listed_above listed_class is_below is_class_below is_array_below is_among is_listed_below any_listed_below has_below click component_callback handed_callback life_events
app_is_looked_up = (
  record {
    sound = sound_shapes;
    past_bare = refl;
    on_nothing = refl;
    called_back = refl;
    clicked = refl;
    not_clicked = refl;
    destroyed = refl;
    by_descriptor = refl;
    by_interface = refl;
    from_above = refl;
  },
  record { sound = sound_events; by_called_interface = refl; array_itself = refl; array_of_children = refl; array_of_numbers = refl; last_called = refl },
  links,
)

pub lists_are_looked_up : ListsAreLookedUp
unfolding shapes row_lists class_named library_key row_walk library_classes listed_above listed_class row_of default_of is_array object_class handed_rows
lists_are_looked_up = record { sound = sound_lists; row_first = refl; default_next = refl; nothing_else = refl; of_array = refl; both_handed = refl }

pub statics_are_looked_up : StaticsAreLookedUp
unfolding shapes static_source listed_static
statics_are_looked_up = (record { only_get = refl }, record { of_field = refl; first_row = refl })

pub parts_are_told : PartsAreTold
unfolding shapes positions class_initialised layout is_wide
parts_are_told = record {
  writes_result = λ kind at args. refl;
  joins_first = refl;
  joins_no_more = refl;
  puts_one = refl;
  places = refl;
  put_initialises = refl;
  has_four = refl;
}
