-- An app with an application object and an activity, and what rules 40 to 47 give of its events.
use Rattle.std.specs.Prelude.{ℕ, true, false, List, [], ◌∷◌, Some, codes}
use Rattle.access_path.specs.declared.path.Path.{Path}
use Rattle.access_path.specs.Paths.{cut, empty_path}
use Rattle.app_machine.specs.declared.call.MethodRef.{MethodRef}
use Rattle.app_machine.specs.declared.component.Kind.TheVariants.{Application, Activity}
use Rattle.app_machine.specs.declared.app.Key.TheVariants.{Elem}
use Rattle.app_machine.specs.declared.app.App.{App}
use Rattle.app_machine.specs.declared.lists.Lists.{Lists}
use Rattle.app_machine.specs.Names.{Name}
use Rattle.app_machine.specs.Lookups.{elem_key}
use Rattle.app_machine.specs.Safe.{native}
use Rattle.fact_rows.specs.declared.context.Ctx.{Ctx}
use Rattle.fact_rows.specs.declared.context.Ctx.TheVariants as ctx
use Rattle.fact_rows.specs.declared.context.Activation.{Activation}
use Rattle.fact_rows.specs.declared.context.Node.{Node}
use Rattle.fact_rows.specs.declared.site.Site.TheVariants.{Param, Component}
use Rattle.fact_rows.specs.declared.row.Row.{Row}
use Rattle.fact_rows.specs.declared.row.Row.TheVariants.{Reached, Points, Taint, ExitPoints, ExitTaint, Live, CompTaint, Handed, HandedTaint, Unknown}
use Rattle.flow_rules.specs.Nodes.{entry}
use Rattle.flow_rules.specs.Rules.{Follows, Starts}
use Rattle.rule_witness.specs.Smallest.{main_class, activity_class}
use Rattle.rule_witness.specs.CallFacts.{box_class, void, ref, method_of, only_ends, initialiser}

abbrev pub first_class : Name
first_class = codes "La/App;"

abbrev pub bundle : Name
bundle = codes "Landroid/os/Bundle;"

-- the methods of the activity: one for an event of its own, for a callback, for a native event and for a click
abbrev pub on_create : MethodRef
on_create = ref main_class (codes "onCreate") (bundle ∷ []) void

abbrev pub on_box : MethodRef
on_box = ref main_class (codes "onGiven") (box_class ∷ []) void

abbrev pub on_start : MethodRef
on_start = ref main_class (codes "onStart") [] void

abbrev pub tap : MethodRef
tap = ref main_class (codes "tap") (codes "Landroid/view/View;" ∷ []) void

unfoldable pub events_app : App
events_app = record {
  classes =
      record { name = first_class; superclass = Some (codes "Landroid/app/Application;"); interfaces = []; is_interface = false; outer = codes "Landroid/app/Application;" ∷ []; bare = [] }
      ∷ record { name = main_class; superclass = Some activity_class; interfaces = []; is_interface = false; outer = activity_class ∷ []; bare = [] }
      ∷ [];
  methods =
      method_of initialiser true 0 0 only_ends
      ∷ method_of on_create false 3 2 only_ends
      ∷ method_of on_box false 3 2 only_ends
      ∷ record { at = on_start; is_static = false; is_native = true; registers = 0; ins = 0; steps = [] }
      ∷ method_of tap false 3 2 only_ends
      ∷ [];
  keys = Elem ∷ [];
  statics = [];
  components = record { kind = Application; class = first_class } ∷ record { kind = Activity; class = main_class } ∷ [];
  clicks = codes "tap" ∷ [];
  providers = [];
  layout_classes = [];
}

-- one callback, whose receiver and parameter come labelled, each by a category of its own
unfoldable pub events_lists : Lists
events_lists = record {
  rows = 1000;
  categories = codes "device_id" ∷ codes "location" ∷ [];
  classes = [];
  shared = [];
  methods = [];
  callbacks = record { class = activity_class; name = on_box.name; proto = on_box.proto; sources = (0, 1) ∷ (1, 0) ∷ [] } ∷ [];
  statics = [];
}

abbrev pub body_in : Ctx → ℕ → Activation
body_in c method = record { ctx = c; method = method }

abbrev pub own : Ctx
own = ctx.Row 1 1

abbrev pub called_back : Ctx
called_back = ctx.Callback 1 0

abbrev pub clicked : Ctx
clicked = ctx.Click 1 0

abbrev pub handed_on : Ctx
handed_on = ctx.Handed 0

-- the entries of the bodies: of `onCreate`, of the callback on the component and on a handed object, and of the click
abbrev pub at_create : Node
at_create = entry (body_in own 1)

abbrev pub at_callback : Node
at_callback = entry (body_in called_back 2)

abbrev pub at_handed : Node
at_handed = entry (body_in handed_on 2)

abbrev pub at_click : Node
at_click = entry (body_in clicked 4)

abbrev pub elements : Path
elements = cut elem_key empty_path

abbrev pub Gives : ℕ → List Row → Row → Type 0
Gives rule premises row = Follows events_app events_lists rule premises row

-- Rules 40 to 47, for any path and label.
pub record EventRulesGive (p : Path) (l : ℕ) : Type 0 where
  pub comes_to_state : Gives 40 (Live 1 1 ∷ []) (Live 1 2)
  pub begins : Gives 40 (Live 1 1 ∷ []) (Reached at_create)
  pub has_parameter : Gives 40 (Live 1 1 ∷ []) (Points at_create 2 (Param own 1))
  pub is_native : Gives 40 (Live 1 2 ∷ []) (Unknown (entry (body_in (ctx.Row 1 2) 3)) native)
  pub has_receiver : Gives 40 (Live 1 1 ∷ []) (Points at_create 1 (Component 1))
  pub keeps_label : Gives 41 (CompTaint 1 1 p l ∷ []) (CompTaint 1 2 p l)
  pub label_to_receiver : Gives 41 (CompTaint 1 1 p l ∷ []) (Taint at_create 1 p l)
  pub callback_begins : Gives 42 (Live 1 3 ∷ []) (Reached at_callback)
  pub parameter_label : Gives 42 (Live 1 3 ∷ []) (Taint at_callback 2 empty_path 0)
  pub parameter_element : Gives 42 (Live 1 3 ∷ []) (Taint at_callback 2 elements 0)
  pub receiver_element : Gives 42 (Live 1 3 ∷ []) (Taint at_callback 1 elements 1)
  pub click_begins : Gives 42 (Live 1 3 ∷ []) (Reached at_click)
  pub click_receiver : Gives 42 (Live 1 3 ∷ []) (Points at_click 1 (Component 1))
  pub click_receiver_label : Gives 42 (CompTaint 1 3 p l ∷ []) (Taint at_click 1 p l)
  pub handed_begins : Gives 43 (Handed (Component 1) ∷ []) (Reached at_handed)
  pub handed_receiver : Gives 43 (Handed (Component 1) ∷ []) (Points at_handed 1 (Component 1))
  pub handed_receiver_label : Gives 43 (HandedTaint (Component 1) p l ∷ []) (Taint at_handed 1 p l)
  pub initialiser_begins : Gives 44 (Live 1 0 ∷ []) (Reached (entry (body_in (ctx.Init 1) 0)))
  pub comes_back : Gives 45 (Reached at_create ∷ Handed (Param own 1) ∷ []) (Points at_create 2 (Param own 1))
  pub comes_back_labelled : Gives 45 (Reached at_create ∷ Handed (Param own 1) ∷ HandedTaint (Param own 1) p l ∷ []) (Taint at_create 2 p l)
  pub result_handed : Gives 46 (ExitPoints (body_in own 1) 0 (Component 1) ∷ []) (Handed (Component 1))
  pub result_handed_labelled : Gives 46 (ExitPoints (body_in own 1) 0 (Component 1) ∷ ExitTaint (body_in own 1) 0 p l ∷ []) (HandedTaint (Component 1) p l)
  pub application_starts : Starts events_app (Live 0 0)
  pub others_after_application : Gives 47 (Live 0 2 ∷ []) (Live 1 0)

abbrev pub EventRulesHold : Type 0
EventRulesHold = (p : Path) (l : ℕ) → EventRulesGive p l
