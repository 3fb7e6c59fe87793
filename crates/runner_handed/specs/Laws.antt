-- What is kept is what may come, and serves later states.
use Rattle.std.specs.Prelude.{◌≡◌, ℕ, List, ◌++◌, length, flat_map}
use Rattle.app_machine.specs.declared.app.App.{App}
use Rattle.app_machine.specs.declared.lists.Lists.{Lists}
use Rattle.app_machine.specs.Names.{Name}
use Rattle.app_machine.specs.State.{World}
use Rattle.app_machine.specs.Summaries.{numbers_from}
use Rattle.played_machine.specs.Coming.{handed_events}
use Rattle.played_machine.specs.Reading.{handed_places}
use Rattle.runner_handed.specs.declared.menu.HandedMenu.{HandedMenu}
use Rattle.runner_handed.specs.Menu.{Fits, HasAll, menu_in}
use Rattle.played_growth.specs.Growth.{classes_of}

abbrev pub ReachedAreEvents : Type 0
ReachedAreEvents =
    (app : App) (lists : Lists) (w : World) (menu : HandedMenu) → HasAll app lists (classes_of w.heap) (handed_places w.handed) menu →
    menu_in w lists menu ≡ flat_map (handed_events app lists w) (numbers_from 0 (length lists.callbacks))

abbrev pub MenusStay : Type 0
MenusStay =
    (app : App) (lists : Lists) (classes new : List Name) (handed more : List ℕ) (menu : HandedMenu) →
    Fits app lists classes handed menu → Fits app lists (classes ++ new) (handed ++ more) menu
