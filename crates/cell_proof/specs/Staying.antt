-- What the second rules give of rows in the app is in the app.
use Rattle.app_machine.specs.declared.app.App.{App}
use Rattle.app_machine.specs.declared.lists.Lists.{Lists}
use Rattle.app_machine.specs.Sound.{SoundApp}
use Rattle.app_machine.specs.SoundLists.{SoundLists}
use Rattle.fact_rows.specs.declared.row.Row.{Row}
use Rattle.flow_rules.specs.Rules.{Starts}
use Rattle.cell_rules.specs.InApp.{CellInApp}
use Rattle.cell_rules.specs.Rules.{Closed, Derivable}

-- The start rows are in the app, whatever follows from rows in the app is, and so each derivable row is.
pub record CellsStayInApp (app : App) (lists : Lists) : Type 0 where
  pub starts : (row : Row) → Starts app row → CellInApp app lists row
  pub closed : Closed app lists (CellInApp app lists)
  pub derivable : (row : Row) → Derivable app lists row → CellInApp app lists row

abbrev pub CellRulesStayInApp : Type 0
CellRulesStayInApp = (app : App) (lists : Lists) → SoundApp app → SoundLists lists → CellsStayInApp app lists
