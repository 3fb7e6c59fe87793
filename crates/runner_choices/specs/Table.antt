-- The table of a component.
use Rattle.std.specs.Prelude.{◌≡◌, ℕ, ◌++◌, Bool, List, map, filter_map, length, Some, slice_get}
use Rattle.app_machine.specs.declared.app.App.{App}
use Rattle.app_machine.specs.declared.component.Component.{Component}
use Rattle.app_machine.specs.declared.lists.Lists.{Lists}
use Rattle.app_machine.specs.LifeEvents.{life_events}
use Rattle.app_machine.specs.State.{World}
use Rattle.app_machine.specs.Summaries.{numbers_from}
use Rattle.app_model.specs.EventBodies.{shown_callback}
use Rattle.app_model.specs.Initialisers.{component_initialisers}
use Rattle.event_index.specs.Comings.{comings}
use Rattle.played_machine.specs.Coming.{Event}
use Rattle.runner_choices.specs.declared.table.ComponentTable.{ComponentTable}
use Rattle.runner_choices.specs.Choices.{by_state, called_by, clicked, life_with, row_on}

-- it is that of the component of this number
pub record IsTable (app : App) (lists : Lists) (c : ℕ) (table : ComponentTable) : Type 0 where
  pub component : Component
  pub there : slice_get app.components c ≡ Some component
  pub class : table.class.now ≡ component.class
  pub lives : table.lives.items ≡ map (row_on app component.class) (life_events component.kind)
  pub called : map shown_callback table.called.items ≡ filter_map (called_by lists) (comings app lists component.class) ++ filter_map (clicked app c) (numbers_from 0 (length app.clicks))
  pub initialisers : table.initialisers.items ≡ component_initialisers app c

-- what may come to the component, which may come to life or not
abbrev pub menu_of : World → ℕ → Bool → ComponentTable → List Event
menu_of w c begins table = filter_map (life_with w c table.class.now begins) table.lives.items ++ by_state w (w.components c) begins (map shown_callback table.called.items) table.initialisers.items
