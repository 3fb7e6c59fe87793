-- A method with every act, and what rules 1 to 21 give at its steps.
use Rattle.std.specs.Prelude.{◌≡◌, ℕ, false, List, [], ◌∷◌, Some, None, codes}
use Rattle.vet_base.specs.declared.key_id.KeyId.{KeyId}
use Rattle.access_path.specs.declared.path.Path.{Path}
use Rattle.access_path.specs.Paths.{cut, empty_path}
use Rattle.app_machine.specs.declared.component.Kind.TheVariants.{Activity}
use Rattle.app_machine.specs.declared.method.Step.{Step}
use Rattle.app_machine.specs.declared.method.Act.{Act}
use Rattle.app_machine.specs.declared.method.Act.TheVariants.{Skip, Join, Move, New, Fill, Get, Put, GetStatic, PutStatic, Return, Throw, TakeResult, TakeException}
use Rattle.app_machine.specs.declared.app.Key.TheVariants.{Elem, Field}
use Rattle.app_machine.specs.declared.app.App.{App}
use Rattle.app_machine.specs.declared.lists.Lists.{Lists}
use Rattle.app_machine.specs.Names.{Name}
use Rattle.app_machine.specs.Lookups.{elem_key}
use Rattle.app_machine.specs.Summaries.{static_source}
use Rattle.app_machine.specs.State.{result_register, exception_register}
use Rattle.fact_rows.specs.declared.context.Ctx.{Ctx}
use Rattle.fact_rows.specs.declared.context.Ctx.TheVariants as ctx
use Rattle.fact_rows.specs.declared.context.Activation.{Activation}
use Rattle.fact_rows.specs.declared.context.Node.{Node}
use Rattle.fact_rows.specs.declared.site.Site.{Site}
use Rattle.fact_rows.specs.declared.site.Site.TheVariants.{At, Component}
use Rattle.fact_rows.specs.declared.row.Row.{Row}
use Rattle.fact_rows.specs.declared.row.Row.TheVariants.{Reached, Points, Taint, Cell, Back, StaticPoints, StaticTaint, CalledBy, Effect, MethodEffect, ExitPoints, ExitTaint, Live, CompTaint, Handed, HandedTaint}
use Rattle.flow_rules.specs.Rules.{Follows}
use Rattle.rule_witness.specs.Smallest.{main_class, activity_class}

abbrev pub does : ℕ → Act → List ℕ → Step
does pc act next = record { pc = pc; act = act; next = next; catches = [] }

-- the same with a handler at 20
abbrev pub tries : ℕ → Act → List ℕ → Step
tries pc act next = record { pc = pc; act = act; next = next; catches = 20 ∷ [] }

abbrev pub field_key : KeyId
field_key = record { 0 = 1 }

abbrev pub ints : Name
ints = codes "[I"

unfoldable pub acts_app : App
acts_app = record {
  classes = record { name = main_class; superclass = Some activity_class; interfaces = []; is_interface = false; outer = activity_class ∷ []; bare = [] } ∷ [];
  methods = record {
    at = record { class = main_class; name = codes "onCreate"; proto = record { params = codes "Landroid/os/Bundle;" ∷ []; ret = codes "V" } };
    is_static = false;
    is_native = false;
    registers = 5;
    ins = 2;
    steps =
        tries 0 Skip (1 ∷ [])
        ∷ does 1 (Move (2 ∷ []) 1) (2 ∷ [])
        ∷ does 2 (TakeResult (2 ∷ [])) (3 ∷ [])
        ∷ does 3 (TakeException 2) (4 ∷ [])
        ∷ does 4 (Join (2 ∷ []) (1 ∷ [])) (5 ∷ [])
        ∷ does 5 (New 2 ints (Some 1)) (6 ∷ [])
        ∷ does 6 (Fill (1 ∷ []) ints) (7 ∷ [])
        ∷ does 7 (Get (2 ∷ []) 1 field_key) (8 ∷ [])
        ∷ tries 8 (Put 1 field_key 2) (9 ∷ [])
        ∷ does 9 (GetStatic (2 ∷ []) 0) (10 ∷ [])
        ∷ does 10 (PutStatic 0 1) (11 ∷ [])
        ∷ tries 11 (Throw 1) []
        ∷ does 12 (Return (Some 1)) []
        ∷ does 20 (Return None) []
        ∷ [];
  } ∷ [];
  keys = Elem ∷ Field main_class (codes "n") (codes "I") ∷ [];
  statics = (main_class, codes "s", codes "I") ∷ [];
  components = record { kind = Activity; class = main_class } ∷ [];
  clicks = [];
  providers = [];
  layout_classes = [];
}

-- an activation of the method, in any context, and its nodes
abbrev pub of_method : Ctx → Activation
of_method c = record { ctx = c; method = 0 }

abbrev pub node_at : Ctx → ℕ → Node
node_at c pc = record { by = of_method c; pc = pc }

-- the rule of the number gives the row of a step from these
abbrev pub Gives : Lists → ℕ → List Row → Row → Type 0
Gives lists rule premises row = Follows acts_app lists rule premises row

-- Rules 1 to 13, in any context, for any site, path and label.
pub record StepRulesGive (lists : Lists) (c : Ctx) (s t : Site) (p : Path) (l : ℕ) : Type 0 where
  pub goes_on : Gives lists 1 (Reached (node_at c 0) ∷ []) (Reached (node_at c 1))
  pub goes_to_handler : Gives lists 1 (Reached (node_at c 0) ∷ []) (Reached (node_at c 20))
  pub keeps_site : Gives lists 2 (Points (node_at c 0) 1 s ∷ []) (Points (node_at c 1) 1 s)
  pub keeps_label : Gives lists 2 (Taint (node_at c 0) 1 p l ∷ []) (Taint (node_at c 1) 1 p l)
  pub keeps_site_to_handler : Gives lists 2 (Points (node_at c 0) 1 s ∷ []) (Points (node_at c 20) 1 s)
  pub keeps_label_to_handler : Gives lists 2 (Taint (node_at c 0) 1 p l ∷ []) (Taint (node_at c 20) 1 p l)
  pub moves_site : Gives lists 3 (Points (node_at c 1) 1 s ∷ []) (Points (node_at c 2) 2 s)
  pub moves_label : Gives lists 3 (Taint (node_at c 1) 1 p l ∷ []) (Taint (node_at c 2) 2 p l)
  pub takes_result_site : Gives lists 3 (Points (node_at c 2) result_register s ∷ []) (Points (node_at c 3) 2 s)
  pub takes_result_label : Gives lists 3 (Taint (node_at c 2) result_register p l ∷ []) (Taint (node_at c 3) 2 p l)
  pub takes_exception_site : Gives lists 3 (Points (node_at c 3) exception_register s ∷ []) (Points (node_at c 4) 2 s)
  pub takes_exception_label : Gives lists 3 (Taint (node_at c 3) exception_register p l ∷ []) (Taint (node_at c 4) 2 p l)
  pub joins : Gives lists 4 (Taint (node_at c 4) 1 empty_path l ∷ []) (Taint (node_at c 5) 2 empty_path l)
  pub makes : Gives lists 5 (Reached (node_at c 5) ∷ []) (Points (node_at c 6) 2 (At (node_at c 5)))
  pub sizes : Gives lists 5 (Taint (node_at c 5) 1 empty_path l ∷ []) (Taint (node_at c 6) 2 empty_path l)
  pub fills : Gives lists 5 (Reached (node_at c 6) ∷ []) (Points (node_at c 7) result_register (At (node_at c 6)))
  pub fills_site : Gives lists 6 (Points (node_at c 6) 1 s ∷ []) (Cell (At (node_at c 6)) elem_key s)
  pub fills_label : Gives lists 6 (Taint (node_at c 6) 1 p l ∷ []) (Taint (node_at c 7) result_register (cut elem_key p) l)
  pub gets_site : Gives lists 7 (Points (node_at c 7) 1 s ∷ Cell s field_key t ∷ []) (Points (node_at c 8) 2 t)
  pub gets_label : Gives lists 7 (Taint (node_at c 7) 1 (cut field_key empty_path) l ∷ []) (Taint (node_at c 8) 2 empty_path l)
  pub puts_site : Gives lists 8 (Points (node_at c 8) 1 s ∷ Points (node_at c 8) 2 t ∷ []) (Cell s field_key t)
  pub puts_label : Gives lists 8 (Points (node_at c 8) 1 s ∷ Taint (node_at c 8) 2 p l ∷ []) (Effect (node_at c 8) s (cut field_key p) l)
  pub gets_static_site : Gives lists 9 (Reached (node_at c 9) ∷ StaticPoints 0 s ∷ []) (Points (node_at c 10) 2 s)
  pub gets_static_label : Gives lists 9 (Reached (node_at c 9) ∷ StaticTaint 0 p l ∷ []) (Taint (node_at c 10) 2 p l)
  pub gets_static_source : static_source acts_app lists 0 ≡ Some l → Gives lists 9 (Reached (node_at c 9) ∷ []) (Taint (node_at c 10) 2 empty_path l)
  pub puts_static_site : Gives lists 10 (Points (node_at c 10) 1 s ∷ []) (StaticPoints 0 s)
  pub puts_static_label : Gives lists 10 (Taint (node_at c 10) 1 p l ∷ []) (StaticTaint 0 p l)
  pub throws_site : Gives lists 11 (Points (node_at c 11) 1 s ∷ []) (Points (node_at c 20) exception_register s)
  pub throws_label : Gives lists 11 (Taint (node_at c 11) 1 p l ∷ []) (Taint (node_at c 20) exception_register p l)
  pub throws_site_out : Gives lists 11 (Points (node_at c 11) 1 s ∷ []) (ExitPoints (of_method c) 1 s)
  pub throws_label_out : Gives lists 11 (Taint (node_at c 11) 1 p l ∷ []) (ExitTaint (of_method c) 1 p l)
  pub returns_site : Gives lists 12 (Points (node_at c 12) 1 s ∷ []) (ExitPoints (of_method c) 0 s)
  pub returns_label : Gives lists 12 (Taint (node_at c 12) 1 p l ∷ []) (ExitTaint (of_method c) 0 p l)
  pub is_held : Gives lists 13 (Cell s field_key t ∷ []) (Back t field_key s)

abbrev pub StepRulesHold : Type 0
StepRulesHold = (lists : Lists) (c : Ctx) (s t : Site) (p : Path) (l : ℕ) → StepRulesGive lists c s t p l

-- `onCreate` in the context of its own event, which is event 1 in the life of component 0, and in that of a click
abbrev pub own_event : Ctx
own_event = ctx.Row 0 1

abbrev pub other_event : Ctx
other_event = ctx.Click 0 0

-- Rules 14 to 21.
pub record EffectRulesGive (lists : Lists) (c : Ctx) (s t : Site) (p : Path) (l : ℕ) : Type 0 where
  pub lifts : Gives lists 14 (Effect (node_at c 8) t p l ∷ Back t field_key s ∷ []) (Effect (node_at c 8) s (cut field_key p) l)
  pub comes_to_register : Gives lists 15 (Effect (node_at c 8) s p l ∷ Points (node_at c 9) 1 s ∷ []) (Taint (node_at c 9) 1 p l)
  pub comes_to_handler : Gives lists 15 (Effect (node_at c 8) s p l ∷ Points (node_at c 20) 1 s ∷ []) (Taint (node_at c 20) 1 p l)
  pub is_of_activation : Gives lists 16 (Effect (node_at c 8) s p l ∷ []) (MethodEffect (of_method c) s p l)
  pub comes_to_caller : (b : Activation) → Gives lists 17 (MethodEffect b s p l ∷ CalledBy b (node_at c 8) ∷ []) (Effect (node_at c 8) s p l)
  pub comes_to_static : Gives lists 18 (Effect (node_at c 8) s p l ∷ StaticPoints 0 s ∷ []) (StaticTaint 0 p l)
  pub comes_to_handed : Gives lists 19 (Effect (node_at c 8) s p l ∷ Handed s ∷ []) (HandedTaint s p l)
  pub comes_to_own : Gives lists 20 (MethodEffect (of_method own_event) (Component 0) p l ∷ []) (CompTaint 0 2 p l)
  pub comes_to_other : Gives lists 21 (MethodEffect (of_method other_event) (Component 0) p l ∷ Live 0 4 ∷ []) (CompTaint 0 4 p l)

abbrev pub EffectRulesHold : Type 0
EffectRulesHold = (lists : Lists) (c : Ctx) (s t : Site) (p : Path) (l : ℕ) → EffectRulesGive lists c s t p l
