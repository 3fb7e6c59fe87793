-- What a table of an app keeps to.
use Rattle.std.specs.Prelude.{◌≤◌, length}
use Rattle.app_flow.specs.declared.flow_rows.FlowTable.{FlowTable}
use Rattle.app_machine.specs.declared.app.App.{App}
use Rattle.app_machine.specs.declared.lists.Lists.{Lists}
use Rattle.fact_rows.specs.declared.row.Row.{Row}
use Rattle.fact_rows.specs.Order.{row_cmp}
use Rattle.flow_analyses.specs.Analyses.{InAppBy}
use Rattle.vet_base.specs.Ascending.{Ascends}
use Rattle.vet_base.specs.Members.{In}

-- The rows ascend, there are at most 4,000,000 of them, and each names only what some app and lists have, as its analysis names it.
pub record IsTable (table : FlowTable) : Type 0 where
  pub app : App
  pub lists : Lists
  pub ascending : Ascends row_cmp table.rows
  pub few : length table.rows ≤ 4000000
  pub in_app : (row : Row) → In row table.rows → InAppBy table.analysis app lists row
