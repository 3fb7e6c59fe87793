-- Apps of one activity in which a label goes from a source to a sink by one way each.
use Rattle.std.specs.Prelude.{ℕ, ◌+◌, true, false, List, [], ◌∷◌, Some, None, codes}
use Rattle.app_machine.specs.declared.call.MethodRef.{MethodRef}
use Rattle.app_machine.specs.declared.call.CallKind.TheVariants.{Static, Virtual}
use Rattle.app_machine.specs.declared.method.Step.{Step}
use Rattle.app_machine.specs.declared.method.Act.{Act}
use Rattle.app_machine.specs.declared.method.Act.TheVariants.{Join, New, Fill, Get, Put, GetStatic, PutStatic, Call, Return, Throw, TakeResult, TakeException}
use Rattle.app_machine.specs.declared.method.Method.{Method}
use Rattle.app_machine.specs.declared.component.Kind.TheVariants.{Application, Activity}
use Rattle.app_machine.specs.declared.app.Key.TheVariants.{Elem}
use Rattle.app_machine.specs.declared.app.Class.{Class}
use Rattle.app_machine.specs.declared.app.App.{App}
use Rattle.app_machine.specs.declared.summary.Gives.TheVariants as gives
use Rattle.app_machine.specs.declared.summary.Summary.{Summary}
use Rattle.app_machine.specs.declared.lists.LibClass.{LibClass}
use Rattle.app_machine.specs.declared.lists.Callback.{Callback}
use Rattle.app_machine.specs.declared.lists.Lists.{Lists}
use Rattle.vet_base.specs.Members.{In}
use Rattle.app_machine.specs.Names.{Name}
use Rattle.app_machine.specs.Lookups.{elem_key}
use Rattle.app_machine.specs.State.{World, Frame}
use Rattle.app_machine.specs.Run.{Run}
use Rattle.machine_witness.specs.Apps.{main_class, device_class, net_class, on_create, id, post, step, one_class}
use Rattle.machine_witness.specs.Acts.{number_field, field_key, ints}

abbrev pub box_class : Name
box_class = codes "Lvendor/Box;"

abbrev pub store_class : Name
store_class = codes "Lvendor/Store;"

abbrev pub activity_class : Name
activity_class = codes "Landroid/app/Activity;"

-- a box of the app's own
abbrev pub own_box : Name
own_box = codes "La/N;"

abbrev pub ref : Name → Name → List Name → Name → MethodRef
ref class name params ret = record { class = class; name = name; proto = record { params = params; ret = ret } }

-- an int, and nothing
abbrev pub int : Name
int = codes "I"

abbrev pub void : Name
void = codes "V"

-- a static field of the library that is a source
abbrev pub build_class : Name
build_class = codes "Landroid/os/Build;"

abbrev pub text : Name
text = codes "Ljava/lang/String;"

-- the methods of the library: one puts a number into a box, one pours a box into another, one puts a number into the shared
-- store, one gives that store, and one gives what a box holds
abbrev pub add : MethodRef
add = ref box_class (codes "add") (box_class ∷ int ∷ []) void

abbrev pub pour : MethodRef
pour = ref box_class (codes "pour") (box_class ∷ box_class ∷ []) void

abbrev pub keep : MethodRef
keep = ref store_class (codes "keep") (int ∷ []) void

abbrev pub open_store : MethodRef
open_store = ref store_class (codes "open") [] store_class

abbrev pub first : MethodRef
first = ref box_class (codes "first") [] int

abbrev pub find : MethodRef
find = ref box_class (codes "find") [] box_class

-- a static method without source and sink
abbrev pub row_of_method : MethodRef → Summary
row_of_method at = record { class = at.class; name = at.name; proto = at.proto; is_static = true; gives = gives.Blank; puts = []; stores = []; copies = []; source = None; sink = None; reflective = false }

abbrev pub id_row : Summary
id_row = record (row_of_method id) { gives = gives.Joined []; source = Some 0 }

abbrev pub post_row : Summary
post_row = record (row_of_method post) { sink = Some (1, 0 ∷ []) }

abbrev pub add_row : Summary
add_row = record (row_of_method add) { puts = (1, 0) ∷ [] }

abbrev pub pour_row : Summary
pour_row = record (row_of_method pour) { copies = (0, 1) ∷ [] }

abbrev pub keep_row : Summary
keep_row = record (row_of_method keep) { stores = (0, 0) ∷ [] }

abbrev pub open_row : Summary
open_row = record (row_of_method open_store) { gives = gives.Shared 0 }

abbrev pub first_row : Summary
first_row = record (row_of_method first) { is_static = false; gives = gives.Taken 0 }

abbrev pub find_row : Summary
find_row = record (row_of_method find) { gives = gives.Handed }

-- the callbacks: an activity is told a number, it is told a box, both labelled, and it is given a box
abbrev pub on_number : MethodRef
on_number = ref main_class (codes "onNumber") (int ∷ []) void

abbrev pub on_told : MethodRef
on_told = ref main_class (codes "onTold") (box_class ∷ []) void

abbrev pub on_given : MethodRef
on_given = ref main_class (codes "onGiven") (box_class ∷ []) void

abbrev pub callback_of : MethodRef → List (ℕ × ℕ) → Callback
callback_of at sources = record { class = activity_class; name = at.name; proto = at.proto; sources = sources }

abbrev pub library_class : Name → LibClass
library_class name = record { name = name; above = name ∷ []; fallback = None }

unfoldable pub box_lists : Lists
box_lists = record {
  rows = 1000;
  categories = codes "device_id" ∷ codes "network" ∷ [];
  classes = library_class device_class ∷ library_class net_class ∷ library_class box_class ∷ library_class store_class ∷ [];
  shared = (codes "store", store_class) ∷ [];
  methods = id_row ∷ post_row ∷ add_row ∷ pour_row ∷ keep_row ∷ open_row ∷ first_row ∷ find_row ∷ [];
  callbacks = callback_of on_number ((1, 0) ∷ []) ∷ callback_of on_told ((1, 0) ∷ []) ∷ callback_of on_given [] ∷ [];
  statics = record { class = build_class; name = codes "SERIAL"; kind = text; source = Some 0 } ∷ [];
}

abbrev pub own_box_class : Class
own_box_class = record { name = own_box; superclass = Some box_class; interfaces = []; is_interface = false; outer = box_class ∷ []; bare = [] }

-- `onCreate` has three registers of its own, and then the activity and its bundle
abbrev pub created_by : List Step → Method
created_by steps = record { at = on_create; is_static = false; is_native = false; registers = 5; ins = 2; steps = steps }

-- the steps of `onCreate`, and the methods besides
pub record Scene : Type 0 where
  pub on_create : List Step
  pub others : List Method

abbrev pub scene : List Step → List Method → Scene
scene steps others = record { on_create = steps; others = others }

-- the app of one activity with these
unfoldable pub activity_of : Scene → App
activity_of s = record {
  classes = one_class ∷ own_box_class ∷ [];
  methods = created_by s.on_create ∷ s.others;
  keys = Elem ∷ number_field ∷ [];
  statics = (main_class, codes "s", int) ∷ (build_class, codes "SERIAL", text) ∷ [];
  components = record { kind = Activity; class = main_class } ∷ [];
  clicks = codes "tap" ∷ [];
  providers = [];
  layout_classes = [];
}

-- a step whose errors are caught
abbrev pub tries : ℕ → Act → List ℕ → List ℕ → Step
tries pc act next catches = record { pc = pc; act = act; next = next; catches = catches }

-- a run brings the label 0 to the sink 1 at this instruction
pub record ArrivesAt (app : App) (method pc : ℕ) : Type 0 where
  pub world : World
  pub frames : List Frame
  pub run : Run app box_lists world frames
  pub arrives : In (record { label = 0; sink = 1; method = method; pc = pc }) world.arrivals

-- the call of the source, whose result comes to register 0
abbrev pub with_id : List Step → List Step
with_id steps = step 0 (Call Static id []) (1 ∷ []) ∷ step 1 (TakeResult (0 ∷ [])) (2 ∷ []) ∷ steps

-- the call of the sink with this register, and the end
abbrev pub and_post : ℕ → ℕ → List Step
and_post pc x = step pc (Call Static post (x ∷ [])) ((pc + 1) ∷ []) ∷ step (pc + 1) (Return None) [] ∷ []

-- through a static field
abbrev pub by_static : Scene
by_static = scene (with_id (step 2 (PutStatic 0 0) (3 ∷ []) ∷ step 3 (GetStatic (1 ∷ []) 0) (4 ∷ []) ∷ and_post 4 1)) []

-- as a static field of the library
abbrev pub by_source : Scene
by_source = scene (step 0 (GetStatic (0 ∷ []) 1) (1 ∷ []) ∷ and_post 1 0) []

-- through an instance field
abbrev pub by_field : Scene
by_field = scene (with_id (step 2 (New 1 own_box None) (3 ∷ []) ∷ step 3 (Put 1 field_key 0) (4 ∷ []) ∷ step 4 (Get (2 ∷ []) 1 field_key) (5 ∷ []) ∷ and_post 5 2)) []

-- through an element that is put, and through one of a filled array
abbrev pub by_element : Scene
by_element = scene (with_id (step 2 (New 1 ints None) (3 ∷ []) ∷ step 3 (Put 1 elem_key 0) (4 ∷ []) ∷ step 4 (Get (2 ∷ []) 1 elem_key) (5 ∷ []) ∷ and_post 5 2)) []

abbrev pub by_filled : Scene
by_filled = scene (with_id (step 2 (Fill (0 ∷ []) ints) (3 ∷ []) ∷ step 3 (TakeResult (1 ∷ [])) (4 ∷ []) ∷ step 4 (Get (2 ∷ []) 1 elem_key) (5 ∷ []) ∷ and_post 5 2)) []

-- as the size of a new array, whose length is read
abbrev pub by_size : Scene
by_size = scene (with_id (step 2 (New 1 ints (Some 0)) (3 ∷ []) ∷ step 3 (Join (2 ∷ []) (1 ∷ [])) (4 ∷ []) ∷ and_post 4 2)) []

-- a static method of the activity with one register
abbrev pub read_id : MethodRef
read_id = ref main_class (codes "read") [] int

abbrev pub helper : MethodRef → List Step → Method
helper at steps = record { at = at; is_static = true; is_native = false; registers = 1; ins = 0; steps = steps }

-- as the result of a method of the app
abbrev pub by_result : Scene
by_result = scene (step 0 (Call Static read_id []) (1 ∷ []) ∷ step 1 (TakeResult (0 ∷ [])) (2 ∷ []) ∷ and_post 2 0) (helper read_id (with_id (step 2 (Return (Some 0)) [] ∷ [])) ∷ [])

-- as what such a method throws, and the caller catches
abbrev pub by_exception : Scene
by_exception = scene (tries 0 (Call Static read_id []) (3 ∷ []) (1 ∷ []) ∷ step 1 (TakeException 0) (2 ∷ []) ∷ and_post 2 0) (helper read_id (with_id (step 2 (Throw 0) [] ∷ [])) ∷ [])

-- through the initialiser of the class of a new object
abbrev pub initialiser : MethodRef
initialiser = ref own_box (codes "<clinit>") [] void

abbrev pub by_initialiser : Scene
by_initialiser = scene (step 0 (New 1 own_box None) (1 ∷ []) ∷ step 1 (GetStatic (0 ∷ []) 0) (2 ∷ []) ∷ and_post 2 0) (helper initialiser (with_id (step 2 (PutStatic 0 0) (3 ∷ []) ∷ step 3 (Return None) [] ∷ [])) ∷ [])

-- through a box of the library, into which a call puts and from which another takes
abbrev pub by_library_put : Scene
by_library_put = scene (with_id (step 2 (New 1 own_box None) (3 ∷ []) ∷ step 3 (Call Static add (1 ∷ 0 ∷ [])) (4 ∷ []) ∷ step 4 (Call Virtual first (1 ∷ [])) (5 ∷ []) ∷ step 5 (TakeResult (2 ∷ [])) (6 ∷ []) ∷ and_post 6 2)) []

-- through a second box, into which the first one is poured
abbrev pub by_library_copy : Scene
by_library_copy = scene (with_id (step 2 (New 1 own_box None) (3 ∷ []) ∷ step 3 (Call Static add (1 ∷ 0 ∷ [])) (4 ∷ []) ∷ step 4 (New 2 own_box None) (5 ∷ []) ∷ step 5 (Call Static pour (1 ∷ 2 ∷ [])) (6 ∷ []) ∷ step 6 (Get (0 ∷ []) 2 elem_key) (7 ∷ []) ∷ and_post 7 0)) []

-- through the shared store, into which one call puts and which another gives
abbrev pub by_library_store : Scene
by_library_store = scene (with_id (step 2 (Call Static keep (0 ∷ [])) (3 ∷ []) ∷ step 3 (Call Static open_store []) (4 ∷ []) ∷ step 4 (TakeResult (1 ∷ [])) (5 ∷ []) ∷ step 5 (Get (2 ∷ []) 1 elem_key) (6 ∷ []) ∷ and_post 6 2)) []

-- in a box that was handed to the library, which another call gives back
abbrev pub by_handed_result : Scene
by_handed_result = scene (with_id (step 2 (New 1 own_box None) (3 ∷ []) ∷ step 3 (Call Static add (1 ∷ 0 ∷ [])) (4 ∷ []) ∷ step 4 (Call Static find []) (5 ∷ []) ∷ step 5 (TakeResult (2 ∷ [])) (6 ∷ []) ∷ step 6 (Get (0 ∷ []) 2 elem_key) (7 ∷ []) ∷ and_post 7 0)) []

-- by a call that puts and then raises: only the handler posts
abbrev pub by_library_raise : Scene
by_library_raise = scene (with_id (step 2 (New 1 own_box None) (3 ∷ []) ∷ tries 3 (Call Static add (1 ∷ 0 ∷ [])) (6 ∷ []) (4 ∷ []) ∷ step 4 (Get (2 ∷ []) 1 elem_key) (5 ∷ []) ∷ and_post 5 2)) []

-- a method of the activity that an event runs, with one register of its own
abbrev pub handler : MethodRef → List Step → Method
handler at steps = record { at = at; is_static = false; is_native = false; registers = 3; ins = 2; steps = steps }

abbrev pub nothing_done : List Step
nothing_done = step 0 (Return None) [] ∷ []

-- as the labelled number of a callback
abbrev pub by_callback : Scene
by_callback = scene nothing_done (handler on_number (and_post 0 2) ∷ [])

-- from `onCreate` to a click, through a static field
abbrev pub tap : MethodRef
tap = ref main_class (codes "tap") (codes "Landroid/view/View;" ∷ []) void

abbrev pub by_click : Scene
by_click = scene (with_id (step 2 (PutStatic 0 0) (3 ∷ []) ∷ step 3 (Return None) [] ∷ [])) (handler tap (step 0 (GetStatic (0 ∷ []) 0) (1 ∷ []) ∷ and_post 1 0) ∷ [])

-- as the element of the labelled box of a callback, which is fresh
abbrev pub by_fresh_parameter : Scene
by_fresh_parameter = scene nothing_done (handler on_told (step 0 (Get (0 ∷ []) 2 elem_key) (1 ∷ []) ∷ and_post 1 0) ∷ [])

-- in a box that was handed to the library, and comes back as the parameter of a callback
abbrev pub by_handed_parameter : Scene
by_handed_parameter = scene (with_id (step 2 (New 1 own_box None) (3 ∷ []) ∷ step 3 (Call Static add (1 ∷ 0 ∷ [])) (4 ∷ []) ∷ step 4 (Return None) [] ∷ [])) (handler on_given (step 0 (Get (0 ∷ []) 2 elem_key) (1 ∷ []) ∷ and_post 1 0) ∷ [])

-- from the application object to the activity, which is made after it
abbrev pub first_class : Name
first_class = codes "La/App;"

unfoldable pub by_application : App
by_application = record {
  classes = record { name = first_class; superclass = Some (codes "Landroid/app/Application;"); interfaces = []; is_interface = false; outer = codes "Landroid/app/Application;" ∷ []; bare = [] } ∷ one_class ∷ [];
  methods =
      record { at = ref first_class (codes "onCreate") [] void; is_static = false; is_native = false; registers = 2; ins = 1; steps = with_id (step 2 (PutStatic 0 0) (3 ∷ []) ∷ step 3 (Return None) [] ∷ []) }
      ∷ created_by (step 0 (GetStatic (0 ∷ []) 0) (1 ∷ []) ∷ and_post 1 0)
      ∷ [];
  keys = Elem ∷ [];
  statics = (main_class, codes "s", int) ∷ [];
  components = record { kind = Application; class = first_class } ∷ record { kind = Activity; class = main_class } ∷ [];
  clicks = [];
  providers = [];
  layout_classes = [];
}

-- the label arrives in each of them, each time at the one call of the sink
pub record WithinOnCreate : Type 0 where
  pub static : ArrivesAt (activity_of by_static) 0 4
  pub source : ArrivesAt (activity_of by_source) 0 1
  pub field : ArrivesAt (activity_of by_field) 0 5
  pub element : ArrivesAt (activity_of by_element) 0 5
  pub filled : ArrivesAt (activity_of by_filled) 0 5
  pub size : ArrivesAt (activity_of by_size) 0 4

pub record ByOtherMethods : Type 0 where
  pub result : ArrivesAt (activity_of by_result) 0 2
  pub exception : ArrivesAt (activity_of by_exception) 0 2
  pub initialiser : ArrivesAt (activity_of by_initialiser) 0 2

pub record ThroughTheLibrary : Type 0 where
  pub put : ArrivesAt (activity_of by_library_put) 0 6
  pub copy : ArrivesAt (activity_of by_library_copy) 0 7
  pub store : ArrivesAt (activity_of by_library_store) 0 6
  pub raise : ArrivesAt (activity_of by_library_raise) 0 5
  pub given_back : ArrivesAt (activity_of by_handed_result) 0 7

pub record FromEventToEvent : Type 0 where
  pub callback : ArrivesAt (activity_of by_callback) 1 0
  pub click : ArrivesAt (activity_of by_click) 1 1
  pub fresh_parameter : ArrivesAt (activity_of by_fresh_parameter) 1 1
  pub handed_parameter : ArrivesAt (activity_of by_handed_parameter) 1 1
  pub application : ArrivesAt by_application 1 1

abbrev pub FlowsWithinOnCreate : Type 0
FlowsWithinOnCreate = WithinOnCreate

abbrev pub FlowsByOtherMethods : Type 0
FlowsByOtherMethods = ByOtherMethods

abbrev pub FlowsThroughTheLibrary : Type 0
FlowsThroughTheLibrary = ThroughTheLibrary

abbrev pub FlowsFromEventToEvent : Type 0
FlowsFromEventToEvent = FromEventToEvent
