-- Where the machine stands: at a call without a row, at a reflective one, and where a native body would run.
use Rattle.std.specs.Prelude.{ℕ, true, false, Bool, List, [], ◌∷◌, Some, None, codes}
use Rattle.app_machine.specs.declared.call.MethodRef.{MethodRef}
use Rattle.app_machine.specs.declared.call.CallKind.TheVariants.{Static}
use Rattle.app_machine.specs.declared.method.Act.TheVariants.{Call, New, Return}
use Rattle.app_machine.specs.declared.method.Method.{Method}
use Rattle.app_machine.specs.declared.component.Kind.TheVariants.{Activity}
use Rattle.app_machine.specs.declared.app.Key.TheVariants.{Elem}
use Rattle.app_machine.specs.declared.app.App.{App}
use Rattle.app_machine.specs.declared.lists.Lists.{Lists}
use Rattle.app_machine.specs.Heap.{Value}
use Rattle.app_machine.specs.State.{World, Frame, new_object}
use Rattle.app_machine.specs.Events.{set_component}
use Rattle.app_machine.specs.Run.{Steps, start_world}
use Rattle.app_machine.specs.Safe.{no_summary, native, reflective, Stands}
use Rattle.machine_witness.specs.Apps.{main_class, on_create, step, one_class}
use Rattle.machine_witness.specs.Flows.{ref, void, box_class, own_box, row_of_method, own_box_class}
use Rattle.machine_witness.specs.Frames.{in_method}

-- one method of the library is reflective, and of another the lists say nothing
abbrev pub mirror : MethodRef
mirror = ref box_class (codes "a") [] void

abbrev pub odd : MethodRef
odd = ref box_class (codes "b") [] void

unfoldable pub standing_lists : Lists
standing_lists = record {
  rows = 1000;
  categories = [];
  classes = record { name = box_class; above = box_class ∷ []; fallback = None } ∷ [];
  shared = [];
  methods = record (row_of_method mirror) { reflective = true } ∷ [];
  callbacks = [];
  statics = [];
}

abbrev pub native_method : MethodRef → Bool → Method
native_method at is_static = record { at = at; is_static = is_static; is_native = true; registers = 0; ins = 0; steps = [] }

abbrev pub initialiser_of_main : MethodRef
initialiser_of_main = ref main_class (codes "<clinit>") [] void

-- an app whose activity has an initialiser in code, and one in which it and the first event are native
abbrev pub app_of : List Method → App
app_of methods = record {
  classes = one_class ∷ own_box_class ∷ [];
  methods = methods;
  keys = Elem ∷ [];
  statics = [];
  components = record { kind = Activity; class = main_class } ∷ [];
  clicks = [];
  providers = [];
  layout_classes = [];
}

abbrev pub initialiser_body : Method
initialiser_body = record { at = initialiser_of_main; is_static = true; is_native = false; registers = 0; ins = 0; steps = step 0 (Return None) [] ∷ [] }

unfoldable pub coded_app : App
coded_app = app_of (initialiser_body
    ∷ record {
      at = on_create;
      is_static = false;
      is_native = false;
      registers = 3;
      ins = 2;
      steps =
          step 0 (Call Static odd []) (1 ∷ [])
          ∷ step 1 (Call Static mirror []) (2 ∷ [])
          ∷ step 2 (New 0 own_box None) (3 ∷ [])
          ∷ step 3 (Return None) []
          ∷ [];
    }
    ∷ native_method (ref own_box (codes "<clinit>") [] void) true
    ∷ [])

unfoldable pub bare_app : App
bare_app = app_of (native_method initialiser_of_main true ∷ native_method (ref main_class (codes "<init>") [] void) false ∷ [])

-- the world in which the activity is made
abbrev pub world_with_activity : World
world_with_activity = record start_world { heap = new_object main_class ∷ []; components = set_component start_world.components 0 (record { state = 1; place = Some 0 }) }

pub record StandsThere : Type 0 where
  pub without_row : (w : World) (r : ℕ → Value) (fs : List Frame) → Stands coded_app standing_lists w (in_method 1 0 r ∷ fs) 1 0 no_summary
  pub at_reflection : (w : World) (r : ℕ → Value) (fs : List Frame) → Stands coded_app standing_lists w (in_method 1 1 r ∷ fs) 1 1 reflective
  pub at_initialiser : (w : World) (r : ℕ → Value) (fs : List Frame) → Stands coded_app standing_lists w (in_method 1 2 r ∷ fs) 1 2 native
  pub at_event : Stands bare_app standing_lists start_world [] 1 0 native
  pub at_class : Stands bare_app standing_lists start_world [] 0 0 native

abbrev pub StandsWhereNothingIsKnown : Type 0
StandsWhereNothingIsKnown = StandsThere

-- the class of a component may be initialised before the component is made, and a native event passes
pub record ComesFirst : Type 0 where
  pub registers : ℕ → Value
  pub initialiser : Steps coded_app standing_lists start_world [] start_world (in_method 0 0 registers ∷ [])
  pub native_event : Steps bare_app standing_lists start_world [] world_with_activity []

abbrev pub InitialisersComeFirst : Type 0
InitialisersComeFirst = ComesFirst
