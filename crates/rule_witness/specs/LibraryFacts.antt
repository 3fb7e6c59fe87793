-- A method that calls the library in each way, and what rules 30 to 39 give at its steps.
use Rattle.std.specs.Prelude.{ℕ, true, List, [], ◌∷◌, Some, None, codes}
use Rattle.access_path.specs.declared.path.Path.{Path}
use Rattle.access_path.specs.Paths.{cut, empty_path}
use Rattle.app_machine.specs.declared.call.MethodRef.{MethodRef}
use Rattle.app_machine.specs.declared.call.CallKind.TheVariants.{Static, Virtual}
use Rattle.app_machine.specs.declared.method.Act.TheVariants.{Call, Return}
use Rattle.app_machine.specs.declared.app.Key.TheVariants.{Elem}
use Rattle.app_machine.specs.declared.app.App.{App}
use Rattle.app_machine.specs.declared.summary.Gives.{Gives as GivesOf}
use Rattle.app_machine.specs.declared.summary.Gives.TheVariants as gives
use Rattle.app_machine.specs.declared.summary.Summary.{Summary}
use Rattle.app_machine.specs.declared.lists.FallbackWord.TheVariants.{Mixed}
use Rattle.app_machine.specs.declared.lists.SummaryId.TheVariants.{Row as RowOf, Fallback}
use Rattle.app_machine.specs.declared.lists.Lists.{Lists}
use Rattle.app_machine.specs.Names.{Name}
use Rattle.app_machine.specs.Lookups.{elem_key}
use Rattle.app_machine.specs.State.{result_register}
use Rattle.fact_rows.specs.declared.context.Ctx.{Ctx}
use Rattle.fact_rows.specs.declared.context.Node.{Node}
use Rattle.fact_rows.specs.declared.site.Site.{Site}
use Rattle.fact_rows.specs.declared.site.Site.TheVariants.{At, Shared}
use Rattle.fact_rows.specs.declared.row.Row.{Row}
use Rattle.fact_rows.specs.declared.row.Row.TheVariants.{Points, Taint, Cell, StaticPoints, StaticTaint, Effect, Handed, HandedTaint, Arrive, Uses}
use Rattle.flow_rules.specs.Rules.{Follows}
use Rattle.rule_witness.specs.Smallest.{main_class}
use Rattle.rule_witness.specs.StepFacts.{does}
use Rattle.rule_witness.specs.CallFacts.{box_class, void, ref, row_of_method, method_of}

-- static methods of the box class, over boxes
abbrev pub gives_same : MethodRef
gives_same = ref box_class (codes "a") (box_class ∷ []) box_class

abbrev pub gives_element : MethodRef
gives_element = ref box_class (codes "b") (box_class ∷ []) box_class

abbrev pub gives_joined : MethodRef
gives_joined = ref box_class (codes "c") (box_class ∷ []) box_class

abbrev pub gives_shared : MethodRef
gives_shared = ref box_class (codes "d") [] box_class

abbrev pub puts_in : MethodRef
puts_in = ref box_class (codes "e") (box_class ∷ box_class ∷ []) void

abbrev pub stores_in : MethodRef
stores_in = ref box_class (codes "f") (box_class ∷ []) void

abbrev pub copies_to : MethodRef
copies_to = ref box_class (codes "g") (box_class ∷ box_class ∷ []) void

abbrev pub sends : MethodRef
sends = ref box_class (codes "h") (box_class ∷ []) void

abbrev pub shows : MethodRef
shows = ref box_class (codes "i") (box_class ∷ box_class ∷ []) void

-- a virtual method of a class without rows, of which a default takes every argument into the receiver
abbrev pub bag_class : Name
bag_class = codes "Lvendor/Bag;"

abbrev pub fills : MethodRef
fills = ref bag_class (codes "j") (box_class ∷ []) void

abbrev pub giving : MethodRef → GivesOf → Summary
giving at what = record (row_of_method at true) { gives = what }

unfoldable pub library_lists : Lists
library_lists = record {
  rows = 1000;
  categories = codes "device_id" ∷ codes "network" ∷ [];
  classes = record { name = box_class; above = box_class ∷ []; fallback = None } ∷ record { name = bag_class; above = bag_class ∷ []; fallback = Some Mixed } ∷ [];
  shared = (codes "store", box_class) ∷ [];
  methods =
      giving gives_same (gives.Same 0)
      ∷ giving gives_element (gives.Taken 0)
      ∷ record (giving gives_joined (gives.Joined (0 ∷ []))) { source = Some 0 }
      ∷ giving gives_shared (gives.Shared 0)
      ∷ record (row_of_method puts_in true) { puts = (1, 0) ∷ [] }
      ∷ record (row_of_method stores_in true) { stores = (0, 0) ∷ [] }
      ∷ record (row_of_method copies_to true) { copies = (0, 1) ∷ [] }
      ∷ record (row_of_method sends true) { sink = Some (1, 0 ∷ []) }
      ∷ record (row_of_method shows true) { sink = Some (1, 1 ∷ []) }
      ∷ [];
  callbacks = [];
  statics = [];
}

unfoldable pub library_app : App
library_app = record {
  classes = [];
  methods = method_of (ref main_class (codes "go") [] void) true 3 0 (
      does 0 (Call Static gives_same (1 ∷ [])) (1 ∷ [])
      ∷ does 1 (Call Static gives_element (1 ∷ [])) (2 ∷ [])
      ∷ does 2 (Call Static gives_joined (1 ∷ [])) (3 ∷ [])
      ∷ does 3 (Call Static gives_shared []) (4 ∷ [])
      ∷ does 4 (Call Static puts_in (1 ∷ 2 ∷ [])) (5 ∷ [])
      ∷ does 5 (Call Static stores_in (1 ∷ [])) (6 ∷ [])
      ∷ does 6 (Call Static copies_to (1 ∷ 2 ∷ [])) (7 ∷ [])
      ∷ does 7 (Call Static sends (1 ∷ [])) (8 ∷ [])
      ∷ does 8 (Call Static shows (1 ∷ 2 ∷ [])) (9 ∷ [])
      ∷ does 9 (Call Virtual fills (1 ∷ 2 ∷ [])) (10 ∷ [])
      ∷ does 10 (Return None) []
      ∷ []) ∷ [];
  keys = Elem ∷ [];
  statics = [];
  components = [];
  clicks = [];
  providers = [];
  layout_classes = [];
}

abbrev pub call_at : Ctx → ℕ → Node
call_at c pc = record { by = record { ctx = c; method = 0 }; pc = pc }

-- each call uses the row of its number
abbrev pub uses_at : Ctx → ℕ → Row
uses_at c pc = Uses (call_at c pc) (RowOf pc)

abbrev pub Gives : ℕ → List Row → Row → Type 0
Gives rule premises row = Follows library_app library_lists rule premises row

-- Rules 30 to 39, in any context, for any sites, path and label. The shared object's static is 0, since the app has none.
pub record LibraryRulesGive (c : Ctx) (s t v : Site) (p : Path) (l : ℕ) : Type 0 where
  pub hands : Gives 30 (uses_at c 7 ∷ Points (call_at c 7) 1 s ∷ []) (Handed s)
  pub hands_label : Gives 30 (uses_at c 7 ∷ Points (call_at c 7) 1 s ∷ Taint (call_at c 7) 1 p l ∷ []) (HandedTaint s p l)
  pub arrives : Gives 31 (uses_at c 7 ∷ Taint (call_at c 7) 1 p l ∷ []) (Arrive l 1 (call_at c 7))
  pub arrives_second : Gives 31 (uses_at c 8 ∷ Taint (call_at c 8) 2 p l ∷ []) (Arrive l 1 (call_at c 8))
  pub same_site : Gives 32 (uses_at c 0 ∷ Points (call_at c 0) 1 s ∷ []) (Points (call_at c 1) result_register s)
  pub same_label : Gives 32 (uses_at c 0 ∷ Taint (call_at c 0) 1 p l ∷ []) (Taint (call_at c 1) result_register p l)
  pub element_site : Gives 33 (uses_at c 1 ∷ Points (call_at c 1) 1 s ∷ Cell s elem_key t ∷ []) (Points (call_at c 2) result_register t)
  pub element_label : Gives 33 (uses_at c 1 ∷ Taint (call_at c 1) 1 (cut elem_key empty_path) l ∷ []) (Taint (call_at c 2) result_register empty_path l)
  pub joined_site : Gives 34 (uses_at c 2 ∷ []) (Points (call_at c 3) result_register (At (call_at c 2)))
  pub joined_label : Gives 35 (uses_at c 2 ∷ Taint (call_at c 2) 1 p l ∷ []) (Taint (call_at c 3) result_register empty_path l)
  pub joined_element : Gives 35 (uses_at c 2 ∷ Taint (call_at c 2) 1 p l ∷ []) (Taint (call_at c 3) result_register (cut elem_key empty_path) l)
  pub source_label : Gives 35 (uses_at c 2 ∷ []) (Taint (call_at c 3) result_register empty_path 0)
  pub source_element : Gives 35 (uses_at c 2 ∷ []) (Taint (call_at c 3) result_register (cut elem_key empty_path) 0)
  pub shared_static : Gives 36 (uses_at c 3 ∷ []) (StaticPoints 0 (Shared 0))
  pub shared_site : Gives 36 (uses_at c 3 ∷ []) (Points (call_at c 4) result_register (Shared 0))
  pub shared_label : Gives 36 (uses_at c 3 ∷ StaticTaint 0 p l ∷ []) (Taint (call_at c 4) result_register p l)
  pub put_site : Gives 37 (uses_at c 4 ∷ Points (call_at c 4) 1 s ∷ Points (call_at c 4) 2 t ∷ []) (Cell s elem_key t)
  pub put_label : Gives 37 (uses_at c 4 ∷ Points (call_at c 4) 1 s ∷ Taint (call_at c 4) 2 p l ∷ []) (Effect (call_at c 4) s (cut elem_key p) l)
  pub default_site : Gives 37 (Uses (call_at c 9) (Fallback 1) ∷ Points (call_at c 9) 1 s ∷ Points (call_at c 9) 2 t ∷ []) (Cell s elem_key t)
  pub default_label : Gives 37 (Uses (call_at c 9) (Fallback 1) ∷ Points (call_at c 9) 1 s ∷ Taint (call_at c 9) 2 p l ∷ []) (Effect (call_at c 9) s (cut elem_key p) l)
  pub store_static : Gives 38 (uses_at c 5 ∷ []) (StaticPoints 0 (Shared 0))
  pub store_site : Gives 38 (uses_at c 5 ∷ Points (call_at c 5) 1 t ∷ []) (Cell (Shared 0) elem_key t)
  pub store_label : Gives 38 (uses_at c 5 ∷ Taint (call_at c 5) 1 p l ∷ []) (Effect (call_at c 5) (Shared 0) (cut elem_key p) l)
  pub copy_site : Gives 39 (uses_at c 6 ∷ Points (call_at c 6) 1 s ∷ Cell s elem_key t ∷ Points (call_at c 6) 2 v ∷ []) (Cell v elem_key t)
  pub copy_label : Gives 39 (uses_at c 6 ∷ Taint (call_at c 6) 1 (cut elem_key empty_path) l ∷ Points (call_at c 6) 2 v ∷ []) (Effect (call_at c 6) v (cut elem_key empty_path) l)

abbrev pub LibraryRulesHold : Type 0
LibraryRulesHold = (c : Ctx) (s t v : Site) (p : Path) (l : ℕ) → LibraryRulesGive c s t v p l
