-- The second set of rules together: what follows from a set of rows, what is derivable, and which tables are good.
use Rattle.std.specs.Prelude.{ℕ, List}
use Rattle.app_machine.specs.declared.lists.Lists.{Lists}
use Rattle.app_machine.specs.declared.app.App.{App}
use Rattle.vet_base.specs.Members.{In}
use Rattle.fact_rows.specs.declared.row.Row.{Row}
use Rattle.flow_rules.specs.Rules.{Starts}
use Rattle.flow_rules.specs.Deriving.{DerivableBy, ClosedBy, GoodBy}
use Rattle.cell_rules.specs.KeptRules.{KeptRule}
use Rattle.cell_rules.specs.LocalRules.{LocalRule}
use Rattle.cell_rules.specs.HeapRules.{HeapRule}
use Rattle.cell_rules.specs.CallRules.{CallRule}
use Rattle.cell_rules.specs.LibraryRules.{LibraryRule}
use Rattle.cell_rules.specs.EventRules.{EventRule}
use Rattle.cell_rules.specs.HandedRules.{HandedRule}
use Rattle.cell_rules.specs.InApp.{CellInApp}

-- The rule of that number gives the row from these premises.
module _ (app : App) (lists : Lists) (rule : ℕ) (premises : List Row) (row : Row) where
  pub data Follows : Type 0 where
    by_kept : KeptRule app lists rule premises row → Follows
    by_local : LocalRule app lists rule premises row → Follows
    by_heap : HeapRule rule premises row → Follows
    by_call : CallRule app lists rule premises row → Follows
    by_library : LibraryRule app lists rule premises row → Follows
    by_event : EventRule app lists rule premises row → Follows
    by_handed : HandedRule app lists rule premises row → Follows

abbrev pub Derivable : App → Lists → Row → Type 0
Derivable app lists row = DerivableBy (Follows app lists) (Starts app) row

abbrev pub Closed : App → Lists → (Row → Type 0) → Type 0
Closed app lists has = ClosedBy (Follows app lists) has

-- Only what app and lists have is named, the starts are there, and what follows from rows that are there is there.
abbrev pub Good : App → Lists → (Row → Type 0) → Type 0
Good app lists has = GoodBy (Follows app lists) (Starts app) (CellInApp app lists) has

abbrev pub GoodTable : App → Lists → List Row → Type 0
GoodTable app lists table = Good app lists (λ row. In row table)
