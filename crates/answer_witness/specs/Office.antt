-- A small app with an activity, a service and a provider, and lists of three categories.
use Rattle.std.specs.Prelude.{false, List, [], ◌∷◌, Some, None, codes}
use Rattle.app_machine.specs.declared.call.MethodRef.{MethodRef}
use Rattle.app_machine.specs.declared.component.Component.{Component}
use Rattle.app_machine.specs.declared.component.Kind.TheVariants.{Application, Activity, Service}
use Rattle.app_machine.specs.declared.method.Act.TheVariants.{New, Return}
use Rattle.app_machine.specs.declared.method.Method.{Method}
use Rattle.app_machine.specs.declared.method.Step.{Step}
use Rattle.app_machine.specs.declared.app.Key.TheVariants.{Elem}
use Rattle.app_machine.specs.declared.app.Class.{Class}
use Rattle.app_machine.specs.declared.app.App.{App}
use Rattle.app_machine.specs.declared.lists.Lists.{Lists}
use Rattle.app_machine.specs.Names.{Name}

abbrev pub first_class : Name
first_class = codes "La/App;"

abbrev pub screen_class : Name
screen_class = codes "La/Screen;"

abbrev pub worker_class : Name
worker_class = codes "La/Worker;"

abbrev pub provider_class : Name
provider_class = codes "La/Provider;"

abbrev pub on_create : MethodRef
on_create = record { class = screen_class; name = codes "onCreate"; proto = record { params = codes "Landroid/os/Bundle;" ∷ []; ret = codes "V" } }

abbrev pub class_above : Name → Name → Class
class_above name above = record { name = name; superclass = Some above; interfaces = []; is_interface = false; outer = above ∷ []; bare = [] }

abbrev pub the_application : Component
the_application = record { kind = Application; class = first_class }

abbrev pub activity : Component
activity = record { kind = Activity; class = screen_class }

abbrev pub service : Component
service = record { kind = Service; class = worker_class }

-- the one method makes an object at 0, and ends at 2
abbrev pub makes : Step
makes = record { pc = 0; act = New 0 worker_class None; next = 2 ∷ []; catches = [] }

abbrev pub ends : Step
ends = record { pc = 2; act = Return None; next = []; catches = [] }

abbrev pub creating : Method
creating = record { at = on_create; is_static = false; is_native = false; registers = 3; ins = 2; steps = makes ∷ ends ∷ [] }

-- the app with these components
unfoldable pub office_with : List Component → App
office_with components = record {
  classes =
      class_above first_class (codes "Landroid/app/Application;")
      ∷ class_above screen_class (codes "Landroid/app/Activity;")
      ∷ class_above worker_class (codes "Landroid/app/Service;")
      ∷ [];
  methods = creating ∷ [];
  keys = Elem ∷ [];
  statics = [];
  components = components;
  clicks = [];
  providers = provider_class ∷ [];
  layout_classes = [];
}

abbrev pub office : App
office = office_with (activity ∷ service ∷ [])

-- the same with an application, which stands first
abbrev pub office_of_application : App
office_of_application = office_with (the_application ∷ activity ∷ service ∷ [])

abbrev pub device : Name
device = codes "device_id"

abbrev pub mail : Name
mail = codes "mail"

abbrev pub network : Name
network = codes "network"

unfoldable pub office_lists : Lists
office_lists = record {
  rows = 1000;
  categories = device ∷ mail ∷ network ∷ [];
  classes = [];
  shared = [];
  methods = [];
  callbacks = [];
  statics = [];
}
