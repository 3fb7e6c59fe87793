-- A small app in which look-ups can go wrong: a class with a method without code and with a field, interfaces above interfaces, an
-- activity and a service with the same method, and a static that is read and written.
use Rattle.std.specs.Prelude.{ℕ, Bool, true, false, List, [], ◌∷◌, Some, None, codes}
use Rattle.app_machine.specs.declared.call.Proto.{Proto}
use Rattle.app_machine.specs.declared.call.MethodRef.{MethodRef}
use Rattle.app_machine.specs.declared.component.Kind.TheVariants.{Activity, Service}
use Rattle.app_machine.specs.declared.method.Step.{Step}
use Rattle.app_machine.specs.declared.method.Act.{Act}
use Rattle.app_machine.specs.declared.method.Act.TheVariants.{GetStatic, PutStatic, Return}
use Rattle.app_machine.specs.declared.method.Method.{Method}
use Rattle.app_machine.specs.declared.app.Key.TheVariants.{Elem, Field}
use Rattle.app_machine.specs.declared.app.Class.{Class}
use Rattle.app_machine.specs.declared.app.App.{App}
use Rattle.app_machine.specs.Names.{Name}

abbrev pub object : Name
object = codes "Ljava/lang/Object;"

abbrev pub activity_class : Name
activity_class = codes "Landroid/app/Activity;"

abbrev pub service_class : Name
service_class = codes "Landroid/app/Service;"

-- the classes of the app: a base and a class that extends it, an interface and the one above it, an activity and a service
abbrev pub base_class : Name
base_class = codes "La/Base;"

abbrev pub child_class : Name
child_class = codes "La/Child;"

abbrev pub inner_interface : Name
inner_interface = codes "La/Inner;"

abbrev pub outer_interface : Name
outer_interface = codes "La/Outer;"

abbrev pub screen_class : Name
screen_class = codes "La/Screen;"

abbrev pub worker_class : Name
worker_class = codes "La/Worker;"

abbrev pub int : Name
int = codes "I"

abbrev pub void : Name
void = codes "V"

abbrev pub ref : Name → Name → List Name → Name → MethodRef
ref class name params ret = record { class = class; name = name; proto = record { params = params; ret = ret } }

-- the methods: the base's initialiser and `go`, a `stop` without code, a callback's body and the two `tap`
abbrev pub initialiser : MethodRef
initialiser = ref base_class (codes "<clinit>") [] void

abbrev pub go : MethodRef
go = ref base_class (codes "go") [] void

abbrev pub stop : MethodRef
stop = ref child_class (codes "stop") [] void

abbrev pub on_given : MethodRef
on_given = ref screen_class (codes "onGiven") (int ∷ []) void

abbrev pub tap : Name → MethodRef
tap class = ref class (codes "tap") (codes "Landroid/view/View;" ∷ []) void

abbrev pub does : ℕ → Act → List ℕ → Step
does pc act next = record { pc = pc; act = act; next = next; catches = [] }

abbrev pub only_ends : List Step
only_ends = does 0 (Return None) [] ∷ []

abbrev pub body : MethodRef → Bool → ℕ → List Step → Method
body at is_static ins steps = record { at = at; is_static = is_static; is_native = false; registers = ins; ins = ins; steps = steps }

-- `go` reads the static, writes it and ends
abbrev pub going : Method
going = body go false 1 (does 0 (GetStatic (0 ∷ []) 0) (1 ∷ []) ∷ does 1 (PutStatic 0 0) (2 ∷ []) ∷ does 2 (Return None) [] ∷ [])

abbrev pub class : Name → Name → List Name → Bool → Name → List (Name × Proto) → Class
class name above interfaces is_interface outer bare = record { name = name; superclass = Some above; interfaces = interfaces; is_interface = is_interface; outer = outer ∷ []; bare = bare }

unfoldable pub shapes : App
shapes = record {
  classes =
      class base_class object [] false object []
      ∷ class child_class base_class (inner_interface ∷ []) false object ((stop.name, stop.proto) ∷ [])
      ∷ class inner_interface object (outer_interface ∷ []) true object []
      ∷ class outer_interface object [] true object []
      ∷ class screen_class activity_class [] false activity_class []
      ∷ class worker_class service_class [] false service_class []
      ∷ [];
  methods =
      body initialiser true 0 only_ends
      ∷ going
      ∷ body on_given false 2 only_ends
      ∷ body (tap screen_class) false 2 only_ends
      ∷ body (tap worker_class) false 2 only_ends
      ∷ [];
  keys = Elem ∷ Field base_class (codes "f") int ∷ [];
  statics = (base_class, codes "s", int) ∷ [];
  components = record { kind = Activity; class = screen_class } ∷ record { kind = Service; class = worker_class } ∷ [];
  clicks = codes "tap" ∷ [];
  providers = [];
  layout_classes = [];
}
