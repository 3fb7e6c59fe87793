-- When a menu fits a state, and what is drawn of it.
use Rattle.std.specs.Prelude.{ℕ, List}
use Rattle.app_machine.specs.declared.app.App.{App}
use Rattle.app_machine.specs.declared.lists.Lists.{Lists}
use Rattle.app_machine.specs.Names.{Name}
use Rattle.app_machine.specs.State.{World}
use Rattle.played_machine.specs.Coming.{Event}
use Rattle.played_machine.specs.Reading.{handed_places}
use Rattle.runner_choices.specs.declared.choice.Choice.{Choice}
use Rattle.runner_choices.specs.Choices.{event_of}
use Rattle.runner_handed.specs.Menu as handed
use Rattle.runner_handed.specs.Menu.{HasAll}
use Rattle.played_growth.specs.Growth.{classes_of}
use Rattle.runner_menu.specs.declared.menu.Menu.{Menu}
use Rattle.runner_menu.specs.Tables.{AreTables}
use Rattle.runner_state.specs.declared.script.Script.{Script}

-- what is kept fits objects of these classes, and these handed places
pub record Fits (app : App) (lists : Lists) (classes : List Name) (places : List ℕ) (menu : Menu) : Type 0 where
  pub tables : AreTables app lists menu.tables.items
  pub handed : handed.Fits app lists classes places menu.handed

-- it has all that may come in the world
pub record IsReady (app : App) (lists : Lists) (w : World) (menu : Menu) : Type 0 where
  pub tables : AreTables app lists menu.tables.items
  pub handed : HasAll app lists (classes_of w.heap) (handed_places w.handed) menu.handed

-- the event that was drawn, and the bytes behind it
abbrev pub choice_behind : World → Choice × Script → Event × List ℕ
choice_behind w drawn = (event_of w drawn.0, drawn.1.left.now)
