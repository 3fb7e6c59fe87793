-- What the rules do not give.
use Rattle.std.specs.Prelude.{◌≡◌, ℕ, List, [], ◌∷◌, Some, None}
use Rattle.access_path.specs.declared.path.Path.{Path}
use Rattle.app_machine.specs.declared.lists.Lists.{Lists}
use Rattle.app_machine.specs.declared.app.App.{App}
use Rattle.vet_base.specs.Members.{In}
use Rattle.fact_rows.specs.declared.context.Ctx.{Ctx}
use Rattle.fact_rows.specs.declared.context.Ctx.TheVariants as ctx
use Rattle.fact_rows.specs.declared.context.Activation.{Activation}
use Rattle.fact_rows.specs.declared.context.Node.{Node}
use Rattle.fact_rows.specs.declared.site.Site.{Site}
use Rattle.fact_rows.specs.declared.site.Site.TheVariants.{At, Param}
use Rattle.fact_rows.specs.declared.row.Row.{Row}
use Rattle.fact_rows.specs.declared.row.Row.TheVariants.{Points, Taint, Calls, Live}
use Rattle.flow_rules.specs.Nodes.{ArgumentRegister, EventRegister, InitialisedBy}
use Rattle.flow_rules.specs.Sites.{site_class}
use Rattle.flow_rules.specs.CallRules.{CallRule}
use Rattle.flow_rules.specs.EventRules.{EventRule, Begins}
use Rattle.rule_witness.specs.CallFacts.{calls_app, calls_lists, box_class, call_at, turns, initialises}
use Rattle.rule_witness.specs.EventFacts.{events_app, events_lists, at_callback}

-- An initialiser that runs before a call is passed none of its arguments, also one with a register for the argument in register 1;
-- and a body that hangs on the site of its receiver is not passed the receiver's sites a second time.
pub record CallsWithhold (app : App) (lists : Lists) (n : Node) (b : Activation) (c : Ctx) (x : ℕ) (s : Site) (p : Path) (l : ℕ) (row : Row) : Type 0 where
  pub site_of_initialiser : InitialisedBy app n b → CallRule app lists 24 (Calls n b ∷ Points n x s ∷ []) row → ⊥
  pub label_of_initialiser : InitialisedBy app n b → CallRule app lists 24 (Calls n b ∷ Taint n x p l ∷ []) row → ⊥
  pub has_register : ArgumentRegister calls_app (initialises c).method 0 0
  pub no_site_to_initialiser : CallRule calls_app calls_lists 24 (Calls (call_at c 0) (initialises c) ∷ Points (call_at c 0) 1 s ∷ []) row → ⊥
  pub no_label_to_initialiser : CallRule calls_app calls_lists 24 (Calls (call_at c 0) (initialises c) ∷ Taint (call_at c 0) 1 p l ∷ []) row → ⊥
  pub site_of_receiver : CallRule calls_app calls_lists 24 (Calls (call_at c 1) (turns c) ∷ Points (call_at c 1) 1 s ∷ []) row → ⊥

abbrev pub CallRulesWithhold : Type 0
CallRulesWithhold =
    (app : App) (lists : Lists) (n : Node) (b : Activation) (c : Ctx) (x : ℕ) (s : Site) (p : Path) (l : ℕ) (row : Row) →
    CallsWithhold app lists n b c x s p l row

-- the row says a label of a register of an event's entry, which a source of its position gives
abbrev pub IsBySource : App → ℕ → List (ℕ × ℕ) → ℕ → ℕ → Type 0
IsBySource app body sources z l = (i : ℕ) × (EventRegister app body i z × In (i, l) sources)

-- No callback comes to a component that is not there, and a parameter comes labelled by a source of its own position alone: what
-- the receiver comes labelled with does not come with the parameter.
pub record EventsWithhold (app : App) (lists : Lists) (k : Ctx) (c body : ℕ) (sources : List (ℕ × ℕ)) (n : Node) (z l : ℕ) (p : Path) (row : Row) : Type 0 where
  pub absent : EventRule app lists 42 (Live c 0 ∷ []) row → ⊥
  pub by_source : Begins app k body sources (Taint n z p l) → IsBySource app body sources z l
  pub not_of_receiver : EventRule events_app events_lists 42 (Live 1 3 ∷ []) (Taint at_callback 2 p 1) → ⊥

abbrev pub EventRulesWithhold : Type 0
EventRulesWithhold =
    (app : App) (lists : Lists) (k : Ctx) (c body : ℕ) (sources : List (ℕ × ℕ)) (n : Node) (z l : ℕ) (p : Path) (row : Row) →
    EventsWithhold app lists k c body sources n z l p row

-- A handed object has the class of its callback's parameter, and a number that a call returns is no object.
pub record SitesTell (c : Ctx) : Type 0 where
  pub handed : site_class events_app events_lists (Param (ctx.Handed 0) 1) ≡ Some box_class
  pub number : site_class calls_app calls_lists (At (call_at c 0)) ≡ None
