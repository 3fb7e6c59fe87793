-- What is listed by a table is what may come.
use Rattle.std.specs.Prelude.{◌≡◌, ℕ}
use Rattle.app_machine.specs.declared.app.App.{App}
use Rattle.app_machine.specs.declared.lists.Lists.{Lists}
use Rattle.app_machine.specs.State.{World}
use Rattle.played_machine.specs.Coming.{component_events, may_begin}
use Rattle.runner_choices.specs.declared.table.ComponentTable.{ComponentTable}
use Rattle.runner_choices.specs.Table.{IsTable, menu_of}

-- the events that may come to the component, in order
abbrev pub MenusAreExact : Type 0
MenusAreExact =
    (app : App) (lists : Lists) (w : World) (c : ℕ) (table : ComponentTable) → IsTable app lists c table →
    menu_of w c (may_begin app w c) table ≡ component_events app lists w c
