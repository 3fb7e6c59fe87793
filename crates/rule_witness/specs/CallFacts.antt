-- A method that calls in each way, and what rules 22 to 29 give at its steps.
use Rattle.std.specs.Prelude.{ℕ, true, false, Bool, List, [], ◌∷◌, Some, None, codes}
use Rattle.access_path.specs.declared.path.Path.{Path}
use Rattle.app_machine.specs.declared.call.MethodRef.{MethodRef}
use Rattle.app_machine.specs.declared.call.CallKind.TheVariants.{Static, Virtual}
use Rattle.app_machine.specs.declared.component.Kind.TheVariants.{Activity}
use Rattle.app_machine.specs.declared.method.Step.{Step}
use Rattle.app_machine.specs.declared.method.Act.TheVariants.{Call, Return}
use Rattle.app_machine.specs.declared.method.Method.{Method}
use Rattle.app_machine.specs.declared.app.Key.TheVariants.{Elem}
use Rattle.app_machine.specs.declared.app.App.{App}
use Rattle.app_machine.specs.declared.summary.Gives.TheVariants as gives
use Rattle.app_machine.specs.declared.summary.Summary.{Summary}
use Rattle.app_machine.specs.declared.lists.SummaryId.TheVariants.{Row as RowOf}
use Rattle.app_machine.specs.declared.lists.Lists.{Lists}
use Rattle.app_machine.specs.Names.{Name}
use Rattle.app_machine.specs.State.{result_register, exception_register}
use Rattle.app_machine.specs.Safe.{no_summary, native, reflective}
use Rattle.fact_rows.specs.declared.context.Ctx.{Ctx}
use Rattle.fact_rows.specs.declared.context.Activation.{Activation}
use Rattle.fact_rows.specs.declared.context.Node.{Node}
use Rattle.fact_rows.specs.declared.site.Site.{Site}
use Rattle.fact_rows.specs.declared.site.Site.TheVariants.{Component}
use Rattle.fact_rows.specs.declared.row.Row.{Row}
use Rattle.fact_rows.specs.declared.row.Row.TheVariants.{Reached, Points, Taint, Calls, CalledBy, MethodEffect, ExitPoints, ExitTaint, Unknown, Uses}
use Rattle.flow_rules.specs.Nodes.{entry, callee}
use Rattle.flow_rules.specs.Rules.{Follows}
use Rattle.rule_witness.specs.Smallest.{main_class, activity_class}
use Rattle.rule_witness.specs.StepFacts.{does, tries}

abbrev pub box_class : Name
box_class = codes "Lvendor/Box;"

abbrev pub int : Name
int = codes "I"

abbrev pub void : Name
void = codes "V"

abbrev pub ref : Name → Name → List Name → Name → MethodRef
ref class name params ret = record { class = class; name = name; proto = record { params = params; ret = ret } }

-- methods of the app: a native one, one that gives its argument, and a virtual one
abbrev pub jni : MethodRef
jni = ref main_class (codes "jni") [] void

abbrev pub pass : MethodRef
pass = ref main_class (codes "pass") (int ∷ []) int

abbrev pub turn : MethodRef
turn = ref main_class (codes "turn") [] void

-- the virtual one as it is called, by the class above
abbrev pub turn_above : MethodRef
turn_above = ref activity_class (codes "turn") [] void

-- methods of the library: a plain one, a reflective one, a virtual one, and one without a row
abbrev pub plain : MethodRef
plain = ref box_class (codes "a") [] int

abbrev pub mirror : MethodRef
mirror = ref box_class (codes "b") [] int

abbrev pub size : MethodRef
size = ref box_class (codes "c") [] int

abbrev pub odd : MethodRef
odd = ref box_class (codes "d") [] int

abbrev pub row_of_method : MethodRef → Bool → Summary
row_of_method at is_static = record { class = at.class; name = at.name; proto = at.proto; is_static = is_static; gives = gives.Blank; puts = []; stores = []; copies = []; source = None; sink = None; reflective = false }

unfoldable pub calls_lists : Lists
calls_lists = record {
  rows = 1000;
  categories = codes "device_id" ∷ [];
  classes = record { name = box_class; above = box_class ∷ []; fallback = None } ∷ [];
  shared = [];
  methods = row_of_method plain true ∷ record (row_of_method mirror true) { reflective = true } ∷ row_of_method size false ∷ [];
  callbacks = [];
  statics = [];
}

abbrev pub method_of : MethodRef → Bool → ℕ → ℕ → List Step → Method
method_of at is_static registers ins steps = record { at = at; is_static = is_static; is_native = false; registers = registers; ins = ins; steps = steps }

abbrev pub only_ends : List Step
only_ends = does 0 (Return None) [] ∷ []

abbrev pub initialiser : MethodRef
initialiser = ref main_class (codes "<clinit>") [] void

-- (its initialiser is not static, so that it has a register, in which an argument could come)
unfoldable pub calls_app : App
calls_app = record {
  classes = record { name = main_class; superclass = Some activity_class; interfaces = []; is_interface = false; outer = box_class ∷ activity_class ∷ []; bare = [] } ∷ [];
  methods =
      method_of initialiser false 1 1 only_ends
      ∷ record { at = jni; is_static = true; is_native = true; registers = 0; ins = 0; steps = [] }
      ∷ method_of (ref main_class (codes "onCreate") (codes "Landroid/os/Bundle;" ∷ []) void) false 5 2 (
      tries 0 (Call Static pass (1 ∷ [])) (1 ∷ [])
      ∷ does 1 (Call Virtual turn_above (1 ∷ [])) (2 ∷ [])
      ∷ does 2 (Call Static jni []) (3 ∷ [])
      ∷ does 3 (Call Static plain []) (4 ∷ [])
      ∷ does 4 (Call Static odd []) (5 ∷ [])
      ∷ does 5 (Call Static mirror []) (6 ∷ [])
      ∷ does 6 (Call Virtual size (1 ∷ [])) (7 ∷ [])
      ∷ does 7 (Return None) []
      ∷ does 20 (Return None) []
      ∷ [])
      ∷ method_of pass true 1 1 (does 0 (Return (Some 0)) [] ∷ [])
      ∷ method_of turn false 1 1 only_ends
      ∷ [];
  keys = Elem ∷ [];
  statics = [];
  components = record { kind = Activity; class = main_class } ∷ [];
  clicks = [];
  providers = [];
  layout_classes = [];
}

-- an activation of `onCreate` and its nodes
abbrev pub caller : Ctx → Activation
caller c = record { ctx = c; method = 2 }

abbrev pub call_at : Ctx → ℕ → Node
call_at c pc = record { by = caller c; pc = pc }

-- what is entered from the first two calls, and the initialiser that may run before the first
abbrev pub passes : Ctx → Activation
passes c = callee (call_at c 0) 3

abbrev pub turns : Ctx → Activation
turns c = callee (call_at c 1) 4

abbrev pub initialises : Ctx → Activation
initialises c = callee (call_at c 0) 0

abbrev pub Gives : ℕ → List Row → Row → Type 0
Gives rule premises row = Follows calls_app calls_lists rule premises row

-- Rules 22 to 29, in any context, for any site, path and label.
pub record CallRulesGive (c : Ctx) (s : Site) (p : Path) (l : ℕ) : Type 0 where
  pub enters : Gives 22 (Reached (call_at c 0) ∷ []) (Calls (call_at c 0) (passes c))
  pub is_entered : Gives 22 (Reached (call_at c 0) ∷ []) (CalledBy (passes c) (call_at c 0))
  pub reaches : Gives 22 (Reached (call_at c 0) ∷ []) (Reached (entry (passes c)))
  pub is_native : Gives 22 (Reached (call_at c 2) ∷ []) (Unknown (call_at c 2) native)
  pub enters_by_class : Gives 23 (Points (call_at c 1) 1 (Component 0) ∷ []) (Calls (call_at c 1) (turns c))
  pub is_receiver : Gives 23 (Points (call_at c 1) 1 (Component 0) ∷ []) (Points (entry (turns c)) 0 (Component 0))
  pub passes_site : Gives 24 (Calls (call_at c 0) (passes c) ∷ Points (call_at c 0) 1 s ∷ []) (Points (entry (passes c)) 0 s)
  pub passes_label : Gives 24 (Calls (call_at c 0) (passes c) ∷ Taint (call_at c 0) 1 p l ∷ []) (Taint (entry (passes c)) 0 p l)
  pub returns_site : Gives 25 (ExitPoints (passes c) 0 s ∷ CalledBy (passes c) (call_at c 0) ∷ []) (Points (call_at c 1) result_register s)
  pub returns_label : Gives 25 (ExitTaint (passes c) 0 p l ∷ CalledBy (passes c) (call_at c 0) ∷ []) (Taint (call_at c 1) result_register p l)
  pub catches_site : Gives 26 (ExitPoints (passes c) 1 s ∷ CalledBy (passes c) (call_at c 0) ∷ []) (Points (call_at c 20) exception_register s)
  pub catches_label : Gives 26 (ExitTaint (passes c) 1 p l ∷ CalledBy (passes c) (call_at c 0) ∷ []) (Taint (call_at c 20) exception_register p l)
  pub unwinds_site : Gives 26 (ExitPoints (passes c) 1 s ∷ CalledBy (passes c) (call_at c 0) ∷ []) (ExitPoints (caller c) 1 s)
  pub unwinds_label : Gives 26 (ExitTaint (passes c) 1 p l ∷ CalledBy (passes c) (call_at c 0) ∷ []) (ExitTaint (caller c) 1 p l)
  pub uses_row : Gives 27 (Reached (call_at c 3) ∷ []) (Uses (call_at c 3) (RowOf 0))
  pub has_no_row : Gives 27 (Reached (call_at c 4) ∷ []) (Unknown (call_at c 4) no_summary)
  pub has_reflective_row : Gives 27 (Reached (call_at c 5) ∷ []) (Unknown (call_at c 5) reflective)
  pub uses_row_by_class : Gives 27 (Points (call_at c 6) 1 (Component 0) ∷ []) (Uses (call_at c 6) (RowOf 2))
  pub enters_initialiser : Gives 28 (Reached (call_at c 0) ∷ []) (Calls (call_at c 0) (initialises c))
  pub initialiser_effect : Gives 29 (MethodEffect (initialises c) s p l ∷ CalledBy (initialises c) (call_at c 0) ∷ Points (call_at c 0) 1 s ∷ []) (Taint (call_at c 0) 1 p l)

abbrev pub CallRulesHold : Type 0
CallRulesHold = (c : Ctx) (s : Site) (p : Path) (l : ℕ) → CallRulesGive c s p l
