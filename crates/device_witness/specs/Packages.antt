-- A small app of classes in two packages, what the files say of their methods, and lists that know every class above them.
use Rattle.std.specs.Prelude.{Bool, true, false, List, [], ◌∷◌, Some, None, codes}
use Rattle.app_machine.specs.declared.app.Key.TheVariants.{Elem}
use Rattle.app_machine.specs.declared.app.Class.{Class}
use Rattle.app_machine.specs.declared.app.App.{App}
use Rattle.app_machine.specs.declared.lists.Lists.{Lists}
use Rattle.app_machine.specs.declared.lists.LibClass.{LibClass}
use Rattle.app_machine.specs.Names.{Name}
use Rattle.device_lists.specs.declared.DeviceLists.{DeviceLists}
use Rattle.link_access.specs.declared.access.ClassAccess.{ClassAccess}
use Rattle.link_access.specs.declared.access.MethodAccess.{MethodAccess}
use Rattle.lookup_witness.specs.Shapes.{object, activity_class, service_class}

-- a class, one below it in its package, and one below it in another
abbrev pub up_class : Name
up_class = codes "La/Up;"

abbrev pub near_class : Name
near_class = codes "La/Low;"

abbrev pub far_class : Name
far_class = codes "Lb/Low;"

abbrev pub below : Name → Name → Class
below name above = record { name = name; superclass = Some above; interfaces = []; is_interface = false; outer = object ∷ []; bare = [] }

unfoldable pub packages : App
packages = record {
  classes = below near_class up_class ∷ below up_class object ∷ below far_class up_class ∷ [];
  methods = [];
  keys = Elem ∷ [];
  statics = [];
  components = [];
  clicks = [];
  providers = [];
  layout_classes = [];
}

abbrev pub send : Name
send = codes "send"

abbrev pub nothing : Name
nothing = codes "()V"

-- a method of objects: whether it is private, and whether it is public or protected
abbrev pub seen : Name → Name → Bool → Bool → MethodAccess
seen name descriptor is_private is_open = record { name = name; descriptor = descriptor; is_static = false; is_private = is_private; is_open = is_open }

abbrev pub shut_ones : List MethodAccess
shut_ones = seen send nothing true false ∷ []

abbrev pub package_ones : List MethodAccess
package_ones = seen send nothing false false ∷ []

abbrev pub open_ones : List MethodAccess
open_ones = seen send nothing false true ∷ []

abbrev pub has : Name → List MethodAccess → Name × ClassAccess
has class methods = (class, record { is_interface = false; methods = methods; statics = [] })

-- a listed class, and those above it
abbrev pub listed : Name → List Name → LibClass
listed name above = record { name = name; above = name ∷ above; fallback = None }

abbrev pub context_name : Name
context_name = codes "Landroid/content/Context;"

abbrev pub lists_of : List LibClass → Lists
lists_of classes = record { rows = 1; categories = []; classes = classes; shared = []; methods = []; callbacks = []; statics = [] }

abbrev pub all_known : Lists
all_known = lists_of (listed object [] ∷ listed context_name (object ∷ []) ∷ listed activity_class (context_name ∷ object ∷ []) ∷ listed service_class (context_name ∷ object ∷ []) ∷ [])

abbrev pub device : Bool → List Name → List Name → DeviceLists
device strict platform bundled = record { strict = strict; platform = platform; bundled = bundled }

abbrev pub strict : DeviceLists
strict = device true [] []
