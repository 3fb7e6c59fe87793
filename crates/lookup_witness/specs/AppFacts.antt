-- What look-ups find in the small app. Behind each fact stands what code would answer that does otherwise.
use Rattle.std.specs.Prelude.{◌≡◌, true, false, [], ◌∷◌, Some, None, slice_get, codes}
use Rattle.app_machine.specs.declared.call.CallKind.TheVariants.{Virtual}
use Rattle.app_machine.specs.declared.component.Kind.TheVariants.{Activity}
use Rattle.app_machine.specs.declared.method.Act.TheVariants.{New}
use Rattle.app_machine.specs.declared.lists.Lists.{Lists}
use Rattle.app_machine.specs.LifeEvents.{life_events}
use Rattle.app_machine.specs.Lookups.{Nothing, target, find_body, body_named, initialisers}
use Rattle.app_machine.specs.Names.{Name, array_of, object_class}
use Rattle.app_machine.specs.Sound.{SoundApp}
use Rattle.app_machine.specs.SoundLists.{SoundLists}
use Rattle.app_model.specs.Above.{is_below}
use Rattle.app_model.specs.EventBodies.{click, component_callback, handed_callback}
use Rattle.lookup_witness.specs.LinkFacts.{Links}
use Rattle.lookup_witness.specs.Shapes.{activity_class, child_class, outer_interface, screen_class, void, go, stop, on_given, tap, shapes}

-- lists with one callback, on activities
unfoldable pub callback_lists : Lists
callback_lists = record {
  rows = 1000;
  categories = codes "device_id" ∷ [];
  classes = [];
  shared = [];
  methods = [];
  callbacks = record { class = activity_class; name = on_given.name; proto = on_given.proto; sources = [] } ∷ [];
  statics = [];
}

abbrev pub numbers : Name
numbers = codes "[I"

-- lists with a callback on the outer interface, with an array, and a last one on activities
unfoldable pub event_lists : Lists
event_lists = record {
  rows = 1000;
  categories = codes "device_id" ∷ [];
  classes = [];
  shared = [];
  methods = [];
  callbacks =
      record { class = outer_interface; name = codes "onFilled"; proto = record { params = numbers ∷ []; ret = void }; sources = [] }
      ∷ record { class = activity_class; name = on_given.name; proto = on_given.proto; sources = [] }
      ∷ [];
  statics = [];
}

pub record LooksUp : Type 0 where
  -- the app is sound, as the look-ups ask
  pub sound : SoundApp shapes
  -- the body of `go` on the child is the base's, past the child's method without code; a search that ends there gives None
  pub past_bare : find_body shapes child_class go.name go.proto ≡ Some 1
  -- a call of a method without code, on no object, comes to nothing; without a look at such methods it comes to `Library`
  pub on_nothing : target shapes Virtual 1 stop None ≡ Nothing
  -- the activity is called back, since its class is below the row's; the other way round it gives None
  pub called_back : handed_callback shapes callback_lists 0 screen_class ≡ Some ([], 2)
  -- a click comes to the activity, and none to the service, which has such a method; for services too it gives Some 4
  pub clicked : click shapes 0 0 ≡ Some 3
  pub not_clicked : click shapes 1 0 ≡ None
  -- a stopped activity that is destroyed is absent, in state 0; a row that leaves it made says 1
  pub destroyed : slice_get (life_events Activity) 10 ≡ Some (record { from = 6; name = codes "onDestroy"; descriptor = codes "()V"; to = 0 })
  -- there is no `tap` of a number; by class and name alone it is that of a view, Some 3
  pub by_descriptor : body_named shapes screen_class (tap screen_class).name (codes "(I)V") ≡ None
  -- the child is below the interface above its interface; without the interfaces' own it is false
  pub by_interface : is_below shapes callback_lists child_class outer_interface ≡ true
  -- a new child runs the base's initialiser, having none of its own; a walk that ends at the child gives none
  pub from_above : initialisers shapes (New 0 child_class None) ≡ 0 ∷ []

-- the same where events are asked for at many rows, from tables that are made once
pub record LooksUpEvents : Type 0 where
  -- the lists are sound, as the tables ask
  pub sound : SoundLists event_lists
  -- the child is below a callback's class by an interface alone; by superclasses, or from a row that is made before those of the
  -- classes above it, it is false
  pub by_called_interface : is_below shapes event_lists child_class outer_interface ≡ true
  -- an array is below the type of a callback's parameter, which it is; where arrays are below nothing it is false
  pub array_itself : is_below shapes event_lists numbers numbers ≡ true
  -- an array of children is below one of the interface, since a child is; where arrays are asked for by name alone it is false
  pub array_of_children : is_below shapes event_lists (array_of child_class) (array_of outer_interface) ≡ true
  -- an array of numbers is below no array of objects, since a number is no object; without a look at the elements' kind it is true
  pub array_of_numbers : is_below shapes event_lists numbers (array_of object_class) ≡ false
  -- the last callback row comes to the activity; without that row it gives None
  pub last_called : component_callback shapes event_lists 0 1 ≡ Some ([], 2)

abbrev pub AppIsLookedUp : Type 0
AppIsLookedUp = LooksUp × LooksUpEvents × Links
