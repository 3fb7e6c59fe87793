-- The smallest app, whose activity does nothing, and its table of eleven rows.
use Rattle.std.specs.Prelude.{false, List, [], ◌∷◌, Some, None, codes}
use Rattle.app_machine.specs.declared.component.Kind.TheVariants.{Activity}
use Rattle.app_machine.specs.declared.method.Act.TheVariants.{Return}
use Rattle.app_machine.specs.declared.app.Key.TheVariants.{Elem}
use Rattle.app_machine.specs.declared.app.App.{App}
use Rattle.app_machine.specs.declared.lists.Lists.{Lists}
use Rattle.vet_base.specs.Members.{In}
use Rattle.app_machine.specs.Names.{Name}
use Rattle.fact_rows.specs.declared.context.Ctx.TheVariants as ctx
use Rattle.fact_rows.specs.declared.context.Node.{Node}
use Rattle.fact_rows.specs.declared.site.Site.TheVariants.{Param, Component}
use Rattle.fact_rows.specs.declared.row.Row.{Row}
use Rattle.fact_rows.specs.declared.row.Row.TheVariants.{Reached, Points, Live}
use Rattle.flow_rules.specs.Rules.{Derivable, GoodTable}

abbrev pub main_class : Name
main_class = codes "La/Main;"

abbrev pub activity_class : Name
activity_class = codes "Landroid/app/Activity;"

-- `onCreate` has the activity and the bundle in its registers, and returns
unfoldable pub smallest_app : App
smallest_app = record {
  classes = record { name = main_class; superclass = Some activity_class; interfaces = []; is_interface = false; outer = activity_class ∷ []; bare = [] } ∷ [];
  methods = record {
    at = record { class = main_class; name = codes "onCreate"; proto = record { params = codes "Landroid/os/Bundle;" ∷ []; ret = codes "V" } };
    is_static = false;
    is_native = false;
    registers = 2;
    ins = 2;
    steps = record { pc = 0; act = Return None; next = []; catches = [] } ∷ [];
  } ∷ [];
  keys = Elem ∷ [];
  statics = [];
  components = record { kind = Activity; class = main_class } ∷ [];
  clicks = [];
  providers = [];
  layout_classes = [];
}

unfoldable pub no_lists : Lists
no_lists = record { rows = 11; categories = []; classes = []; shared = []; methods = []; callbacks = []; statics = [] }

-- `onCreate` is event 1 in the life of component 0
abbrev pub on_create_node : Node
on_create_node = record { by = record { ctx = ctx.Row 0 1; method = 0 }; pc = 0 }

-- the activity comes to each of its states, and its `onCreate` begins with the activity and a bundle
abbrev pub smallest_table : List Row
smallest_table =
    Live 0 0 ∷ Live 0 1 ∷ Live 0 2 ∷ Live 0 3 ∷ Live 0 4 ∷ Live 0 5 ∷ Live 0 6 ∷ Live 0 7
    ∷ Reached on_create_node
    ∷ Points on_create_node 0 (Component 0)
    ∷ Points on_create_node 1 (Param (ctx.Row 0 1) 1)
    ∷ []

abbrev pub SmallestTableIsGood : Type 0
SmallestTableIsGood = GoodTable smallest_app no_lists smallest_table

-- each of the rows is derivable, and so they are all that is
abbrev pub SmallestTableIsDerivable : Type 0
SmallestTableIsDerivable = (row : Row) → In row smallest_table → Derivable smallest_app no_lists row
