-- A menu serves later states.
use Rattle.std.specs.Prelude.{ℕ, List, ◌++◌}
use Rattle.app_machine.specs.declared.app.App.{App}
use Rattle.app_machine.specs.declared.lists.Lists.{Lists}
use Rattle.app_machine.specs.Names.{Name}
use Rattle.runner_menu.specs.declared.menu.Menu.{Menu}
use Rattle.runner_menu.specs.Menus.{Fits}

abbrev pub MenusStay : Type 0
MenusStay =
    (app : App) (lists : Lists) (classes new : List Name) (handed more : List ℕ) (menu : Menu) →
    Fits app lists classes handed menu → Fits app lists (classes ++ new) (handed ++ more) menu
