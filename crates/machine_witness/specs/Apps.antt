-- Small apps, and what the machine should do with them.
use Rattle.std.specs.Prelude.{◌≡◌, ℕ, Bool, true, false, List, [], ◌∷◌, Option, Some, None, codes}
use Rattle.app_machine.specs.declared.call.MethodRef.{MethodRef}
use Rattle.app_machine.specs.declared.call.CallKind.TheVariants.{Static, Super, Virtual}
use Rattle.app_machine.specs.declared.method.Step.{Step}
use Rattle.app_machine.specs.declared.method.Act.{Act}
use Rattle.app_machine.specs.declared.method.Act.TheVariants.{Blank, Call, Return, TakeResult}
use Rattle.app_machine.specs.declared.method.Method.{Method}
use Rattle.app_machine.specs.declared.component.Kind.TheVariants.{Activity}
use Rattle.app_machine.specs.declared.app.Key.TheVariants.{Elem}
use Rattle.app_machine.specs.declared.app.Class.{Class}
use Rattle.app_machine.specs.declared.app.App.{App}
use Rattle.app_machine.specs.declared.summary.Gives.TheVariants as gives
use Rattle.app_machine.specs.declared.lists.Lists.{Lists}
use Rattle.vet_base.specs.Members.{In}
use Rattle.app_machine.specs.Names.{Name}
use Rattle.app_machine.specs.Lookups.{target, Body, Library}
use Rattle.app_machine.specs.Heap.{Value}
use Rattle.app_machine.specs.State.{Arrival, World, Frame}
use Rattle.app_machine.specs.Run.{Run}
use Rattle.app_machine.specs.Safe.{native, Stands}

-- the classes and methods of the small apps
abbrev pub main_class : Name
main_class = codes "La/Main;"

abbrev pub device_class : Name
device_class = codes "Lvendor/Device;"

abbrev pub net_class : Name
net_class = codes "Lvendor/Net;"

abbrev pub on_create : MethodRef
on_create = record { class = main_class; name = codes "onCreate"; proto = record { params = codes "Landroid/os/Bundle;" ∷ []; ret = codes "V" } }

-- the device's number, and what posts a number
abbrev pub id : MethodRef
id = record { class = device_class; name = codes "id"; proto = record { params = []; ret = codes "I" } }

abbrev pub post : MethodRef
post = record { class = net_class; name = codes "post"; proto = record { params = codes "I" ∷ []; ret = codes "V" } }

abbrev pub step : ℕ → Act → List ℕ → Step
step pc act next = record { pc = pc; act = act; next = next; catches = [] }

abbrev pub one_class : Class
one_class = record { name = main_class; superclass = Some (codes "Landroid/app/Activity;"); interfaces = []; is_interface = false; outer = codes "Landroid/app/Activity;" ∷ []; bare = [] }

-- the activity whose `onCreate` has these steps, in three registers of which two hold the arguments
abbrev pub activity_with : List Step → App
activity_with steps = record {
  classes = one_class ∷ [];
  methods = record { at = on_create; is_static = false; is_native = false; registers = 3; ins = 2; steps = steps } ∷ [];
  keys = Elem ∷ [];
  statics = [];
  components = record { kind = Activity; class = main_class } ∷ [];
  clicks = [];
  providers = [];
  layout_classes = [];
}

-- the id goes to the post
abbrev pub leaking_steps : List Step
leaking_steps = step 0 (Call Static id []) (3 ∷ []) ∷ step 3 (TakeResult (0 ∷ [])) (4 ∷ []) ∷ step 4 (Call Static post (0 ∷ [])) (7 ∷ []) ∷ step 7 (Return None) [] ∷ []

-- the same with a constant in between
abbrev pub clear_steps : List Step
clear_steps = step 0 (Call Static id []) (3 ∷ []) ∷ step 3 (TakeResult (0 ∷ [])) (4 ∷ []) ∷ step 4 (Blank (0 ∷ [])) (5 ∷ []) ∷ step 5 (Call Static post (0 ∷ [])) (8 ∷ []) ∷ step 8 (Return None) [] ∷ []

unfoldable pub leaking_app : App
leaking_app = activity_with leaking_steps

unfoldable pub clear_app : App
clear_app = activity_with clear_steps

-- the id is a source of category 0, and the post a sink of category 1
unfoldable pub small_lists : Lists
small_lists = record {
  rows = 1000;
  categories = codes "device_id" ∷ codes "network" ∷ [];
  classes = record { name = device_class; above = device_class ∷ []; fallback = None } ∷ record { name = net_class; above = net_class ∷ []; fallback = None } ∷ [];
  shared = [];
  methods =
      record { class = device_class; name = codes "id"; proto = id.proto; is_static = true; gives = gives.Joined []; puts = []; stores = []; copies = []; source = Some 0; sink = None; reflective = false }
      ∷ record { class = net_class; name = codes "post"; proto = post.proto; is_static = true; gives = gives.Blank; puts = []; stores = []; copies = []; source = None; sink = Some (1, 0 ∷ []); reflective = false }
      ∷ [];
  callbacks = [];
  statics = [];
}

-- some run brings the label 0 to the sink 1, at the call of `post`
pub record LeakingRun : Type 0 where
  pub world : World
  pub frames : List Frame
  pub run : Run leaking_app small_lists world frames
  pub arrives : In (record { label = 0; sink = 1; method = 0; pc = 4 }) world.arrivals

abbrev pub Leaks : Type 0
Leaks = LeakingRun

abbrev pub ClearSiblingNeverArrives : Type 0
ClearSiblingNeverArrives = (w : World) (fs : List Frame) → Run clear_app small_lists w fs → (a : Arrival) → In a w.arrivals → ⊥

-- an activity that calls a native method of its own
abbrev pub jni : MethodRef
jni = record { class = main_class; name = codes "jni"; proto = record { params = []; ret = codes "V" } }

unfoldable pub native_app : App
native_app = record {
  classes = one_class ∷ [];
  methods = record { at = jni; is_static = true; is_native = true; registers = 0; ins = 0; steps = [] }
      ∷ record { at = on_create; is_static = false; is_native = false; registers = 3; ins = 2; steps = step 0 (Call Static jni []) (3 ∷ []) ∷ step 3 (Return None) [] ∷ [] }
      ∷ [];
  keys = Elem ∷ [];
  statics = [];
  components = record { kind = Activity; class = main_class } ∷ [];
  clicks = [];
  providers = [];
  layout_classes = [];
}

-- whatever its registers, the activity stands at the call
abbrev pub StandsAtNative : Type 0
StandsAtNative = (w : World) (registers : ℕ → Value) (initialises : Bool) (fs : List Frame) → Stands native_app small_lists w (record { method = 1; pc = 0; registers = registers; initialises = initialises } ∷ fs) 1 0 native

-- three classes, each above the next: the first and the second define `go`
abbrev pub family_class : Name → Option Name → Class
family_class name above = record { name = name; superclass = above; interfaces = []; is_interface = false; outer = codes "Ljava/lang/Object;" ∷ []; bare = [] }

abbrev pub go_of : Name → MethodRef
go_of class = record { class = class; name = codes "go"; proto = record { params = []; ret = codes "V" } }

abbrev pub go_in : Name → Method
go_in class = record { at = go_of class; is_static = false; is_native = false; registers = 1; ins = 1; steps = step 0 (Return None) [] ∷ [] }

unfoldable pub family : App
family = record {
  classes = family_class (codes "La/A;") (Some (codes "Ljava/lang/Object;")) ∷ family_class (codes "La/B;") (Some (codes "La/A;")) ∷ family_class (codes "La/C;") (Some (codes "La/B;")) ∷ [];
  methods = go_in (codes "La/A;") ∷ go_in (codes "La/B;") ∷ [];
  keys = Elem ∷ [];
  statics = [];
  components = [];
  clicks = [];
  providers = [];
  layout_classes = [];
}

-- In B's `go`: a super call of `go` comes to A's, whatever the receiver; a virtual call of A's `go` on a C comes to B's, which C
-- inherits; and a virtual call of a library class's `go` on a class that is not of the app comes to the library.
pub record CallsGo : Type 0 where
  pub by_super : target family Super 1 (go_of (codes "La/B;")) (Some (codes "La/C;")) ≡ Body 0
  pub by_receiver : target family Virtual 1 (go_of (codes "La/A;")) (Some (codes "La/C;")) ≡ Body 1
  pub to_library : target family Virtual 1 (go_of (codes "Lvendor/X;")) (Some (codes "Lvendor/Y;")) ≡ Library (codes "Lvendor/X;")
  pub by_class_of_object : target family Virtual 1 (go_of (codes "La/A;")) (Some (codes "Lvendor/Y;")) ≡ Library (codes "Lvendor/Y;")

abbrev pub CallsGoUpward : Type 0
CallsGoUpward = CallsGo
