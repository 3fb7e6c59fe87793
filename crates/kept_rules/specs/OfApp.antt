-- Of the first set of an app these are the rules that the second has as they stand.
use Rattle.std.specs.Prelude.{◌↔◌, ℕ, List}
use Rattle.app_machine.specs.declared.lists.Lists.{Lists}
use Rattle.app_machine.specs.declared.app.App.{App}
use Rattle.fact_rows.specs.declared.row.Row.{Row}
use Rattle.flow_rules.specs.Rules.{Follows}
use Rattle.cell_rules.specs.KeptRules.{KeptRule}
use Rattle.kept_rules.specs.Kept.{KeptBy}

abbrev pub IsTheAppsKept : Type 0
IsTheAppsKept =
    (app : App) (lists : Lists) (rule : ℕ) (premises : List Row) (row : Row) →
    KeptBy (Follows app lists) rule premises row ↔ KeptRule app lists rule premises row
