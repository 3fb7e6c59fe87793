-- A method that asks the library for an activity, and what rule 48 gives and withholds there.
use Rattle.std.specs.Prelude.{ℕ, true, false, List, [], ◌∷◌, Some, None, codes}
use Rattle.access_path.specs.declared.path.Path.{Path}
use Rattle.app_machine.specs.declared.call.MethodRef.{MethodRef}
use Rattle.app_machine.specs.declared.call.CallKind.TheVariants.{Static}
use Rattle.app_machine.specs.declared.component.Kind.TheVariants.{Activity}
use Rattle.app_machine.specs.declared.method.Act.TheVariants.{Call, Return}
use Rattle.app_machine.specs.declared.app.Key.TheVariants.{Elem}
use Rattle.app_machine.specs.declared.app.App.{App}
use Rattle.app_machine.specs.declared.summary.Gives.TheVariants as gives
use Rattle.app_machine.specs.declared.summary.Summary.{Summary}
use Rattle.app_machine.specs.declared.lists.SummaryId.{SummaryId}
use Rattle.app_machine.specs.declared.lists.SummaryId.TheVariants.{Row as RowOf}
use Rattle.app_machine.specs.declared.lists.Lists.{Lists}
use Rattle.app_machine.specs.State.{result_register}
use Rattle.fact_rows.specs.declared.context.Ctx.{Ctx}
use Rattle.fact_rows.specs.declared.context.Node.{Node}
use Rattle.fact_rows.specs.declared.site.Site.TheVariants.{Component, Shared}
use Rattle.fact_rows.specs.declared.row.Row.{Row}
use Rattle.fact_rows.specs.declared.row.Row.TheVariants.{Points, Taint, Live, CompTaint, Handed, HandedTaint, Uses}
use Rattle.flow_rules.specs.HandedRules.{HandedRule}
use Rattle.flow_rules.specs.Rules.{Follows}
use Rattle.rule_witness.specs.Smallest.{main_class, activity_class}
use Rattle.rule_witness.specs.StepFacts.{does}
use Rattle.rule_witness.specs.CallFacts.{box_class, void, ref, row_of_method, method_of}

abbrev pub gives_back : MethodRef
gives_back = ref box_class (codes "owner") [] activity_class

abbrev pub back_row : Summary
back_row = record (row_of_method gives_back true) { gives = gives.Handed }

unfoldable pub handed_lists : Lists
handed_lists = record {
  rows = 1000;
  categories = codes "device_id" ∷ [];
  classes = record { name = box_class; above = box_class ∷ []; fallback = None } ∷ [];
  shared = (codes "box", box_class) ∷ [];
  methods = back_row ∷ [];
  callbacks = [];
  statics = [];
}

unfoldable pub handed_app : App
handed_app = record {
  classes = record { name = main_class; superclass = Some activity_class; interfaces = []; is_interface = false; outer = activity_class ∷ []; bare = [] } ∷ [];
  methods = method_of (ref main_class (codes "go") [] void) true 1 0 (does 0 (Call Static gives_back []) (1 ∷ []) ∷ does 1 (Return None) [] ∷ []) ∷ [];
  keys = Elem ∷ [];
  statics = [];
  components = record { kind = Activity; class = main_class } ∷ [];
  clicks = [];
  providers = [];
  layout_classes = [];
}

-- the call, and the node behind it
abbrev pub call_in : Ctx → Node
call_in c = record { by = record { ctx = c; method = 0 }; pc = 0 }

abbrev pub behind : Ctx → Node
behind c = record { by = record { ctx = c; method = 0 }; pc = 1 }

abbrev pub uses : Ctx → Row
uses c = Uses (call_in c) (RowOf 0)

abbrev pub Gives : List Row → Row → Type 0
Gives premises row = Follows handed_app handed_lists 48 premises row

-- The activity comes back where it was handed, and where it is there, with what it leads to.
pub record HandedRulesGive (c : Ctx) (p : Path) (l : ℕ) : Type 0 where
  pub handed_site : Gives (uses c ∷ Handed (Component 0) ∷ []) (Points (behind c) result_register (Component 0))
  pub handed_label : Gives (uses c ∷ Handed (Component 0) ∷ HandedTaint (Component 0) p l ∷ []) (Taint (behind c) result_register p l)
  pub live_site : Gives (uses c ∷ Live 0 1 ∷ []) (Points (behind c) result_register (Component 0))
  pub live_label : Gives (uses c ∷ Live 0 1 ∷ CompTaint 0 1 p l ∷ []) (Taint (behind c) result_register p l)

abbrev pub HandedRulesHold : Type 0
HandedRulesHold = (c : Ctx) (p : Path) (l : ℕ) → HandedRulesGive c p l

-- No component comes back that is not there, and no box where an activity is asked for.
pub record HandedWithhold (app : App) (lists : Lists) (n : Node) (u : SummaryId) (d : ℕ) (c : Ctx) (p : Path) (l : ℕ) (row : Row) : Type 0 where
  pub absent : HandedRule app lists 48 (Uses n u ∷ Live d 0 ∷ []) row → ⊥
  pub label_of_absent : HandedRule app lists 48 (Uses n u ∷ Live d 0 ∷ CompTaint d 0 p l ∷ []) row → ⊥
  pub other_class : HandedRule handed_app handed_lists 48 (uses c ∷ Handed (Shared 0) ∷ []) row → ⊥

abbrev pub HandedRulesWithhold : Type 0
HandedRulesWithhold =
    (app : App) (lists : Lists) (n : Node) (u : SummaryId) (d : ℕ) (c : Ctx) (p : Path) (l : ℕ) (row : Row) → HandedWithhold app lists n u d c p l row
