-- What is kept of handed objects by callback row, and when it fits.
use Rattle.std.specs.Prelude.{◌≡◌, ◌<◌, ◌≤◌, ℕ, true, List, length, map, take, flat_map}
use Rattle.app_machine.specs.declared.app.App.{App}
use Rattle.app_machine.specs.declared.lists.Lists.{Lists}
use Rattle.app_machine.specs.Names.{Name}
use Rattle.app_machine.specs.State.{World}
use Rattle.app_machine.specs.Summaries.{numbers_from}
use Rattle.vet_base.specs.Members.{In}
use Rattle.played_machine.specs.Coming.{Event}
use Rattle.runner_handed.specs.declared.menu.HandedMenu.{HandedMenu}
use Rattle.runner_handed.specs.Reached.{kept_of, reached_event, runs_on}

-- the rows have what comes to the first so many of the handed places, each of which is that of an object
pub record FitsFirst (app : App) (lists : Lists) (classes : List Name) (handed : List ℕ) (menu : HandedMenu) : Type 0 where
  pub within : menu.seen ≤ length handed
  pub rows : (q : ℕ) → q < length lists.callbacks → kept_of menu.rows.items q ≡ runs_on app lists classes q (take menu.seen handed)
  pub objects : (p : ℕ) → In p (take menu.seen handed) → p < length classes

pub record Fits (app : App) (lists : Lists) (classes : List Name) (handed : List ℕ) (menu : HandedMenu) : Type 0 where
  pub long : length menu.rows.items ≡ length lists.callbacks
  pub first : menu.whole ≡ true → FitsFirst app lists classes handed menu

-- the rows have what comes to all handed places
pub record HasAll (app : App) (lists : Lists) (classes : List Name) (handed : List ℕ) (menu : HandedMenu) : Type 0 where
  pub long : length menu.rows.items ≡ length lists.callbacks
  pub rows : (q : ℕ) → q < length lists.callbacks → kept_of menu.rows.items q ≡ runs_on app lists classes q handed

-- what is kept as events, row by row
abbrev pub menu_in : World → Lists → HandedMenu → List Event
menu_in w lists menu = flat_map (λ q. map (reached_event w lists q) (kept_of menu.rows.items q)) (numbers_from 0 (length menu.rows.items))
