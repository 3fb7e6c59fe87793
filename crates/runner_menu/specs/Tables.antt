-- The tables of all components.
use Rattle.std.specs.Prelude.{◌≡◌, ℕ, List, [], length, flat_map, Option, Some, None, slice_get}
use Rattle.app_machine.specs.declared.app.App.{App}
use Rattle.app_machine.specs.declared.lists.Lists.{Lists}
use Rattle.app_machine.specs.State.{World}
use Rattle.app_machine.specs.Summaries.{numbers_from}
use Rattle.played_machine.specs.Coming.{Event, may_begin}
use Rattle.runner_choices.specs.declared.table.ComponentTable.{ComponentTable}
use Rattle.runner_choices.specs.Table.{IsTable, menu_of}

-- each is that of the component of its number
pub record AreTables (app : App) (lists : Lists) (tables : List ComponentTable) : Type 0 where
  pub long : length tables ≡ length app.components
  pub at : (c : ℕ) (table : ComponentTable) → slice_get tables c ≡ Some table → IsTable app lists c table

abbrev pub menu_at : App → World → ℕ → Option ComponentTable → List Event
menu_at app w c None = []
menu_at app w c (Some table) = menu_of w c (may_begin app w c) table

-- what may come to the components, by number
abbrev pub components_in : App → World → List ComponentTable → List Event
components_in app w tables = flat_map (λ c. menu_at app w c (slice_get tables c)) (numbers_from 0 (length app.components))
