-- What the list of start rows is.
use Rattle.std.specs.Prelude.{◌↔◌}
use Rattle.app_machine.specs.declared.app.App.{App}
use Rattle.vet_base.specs.Ascending.{Ascends}
use Rattle.vet_base.specs.Members.{In}
use Rattle.fact_rows.specs.declared.row.Row.{Row}
use Rattle.fact_rows.specs.Order.{row_cmp}
use Rattle.flow_rules.specs.Rules.{Starts}
use Rattle.app_rows.specs.StartRows.{start_rows}

-- just the rows with which a derivation may start, in ascending order
pub record StartsAreExact (app : App) : Type 0 where
  pub exact : (row : Row) → In row (start_rows app) ↔ Starts app row
  pub ascend : Ascends row_cmp (start_rows app)
