-- What the rules give of rows in the app is in the app.
use Rattle.app_machine.specs.declared.app.App.{App}
use Rattle.app_machine.specs.declared.lists.Lists.{Lists}
use Rattle.app_machine.specs.Sound.{SoundApp}
use Rattle.app_machine.specs.SoundLists.{SoundLists}
use Rattle.fact_rows.specs.declared.row.Row.{Row}
use Rattle.fact_rows.specs.InApp.{InApp}
use Rattle.flow_rules.specs.Rules.{Starts, Closed, Derivable}

-- The start rows are in the app, whatever follows from rows in the app is, and so each derivable row is.
pub record StayInApp (app : App) (lists : Lists) : Type 0 where
  pub starts : (row : Row) → Starts app row → InApp app lists row
  pub closed : Closed app lists (InApp app lists)
  pub derivable : (row : Row) → Derivable app lists row → InApp app lists row

abbrev pub RulesStayInApp : Type 0
RulesStayInApp = (app : App) (lists : Lists) → SoundApp app → SoundLists lists → StayInApp app lists
