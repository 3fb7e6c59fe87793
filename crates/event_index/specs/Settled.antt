-- The rows of the classes of an app.
use Rattle.std.specs.Prelude.{◌≡◌, ℕ, Bool, true, false, List, Option, Some, length, slice_get}
use Rattle.std.specs.List.{list_any}
use Rattle.app_machine.specs.declared.app.App.{App}
use Rattle.app_machine.specs.declared.app.Class.{Class}
use Rattle.app_machine.specs.declared.lists.Lists.{Lists}
use Rattle.app_machine.specs.Names.{Name}
use Rattle.app_model.specs.Above.{is_class_below}
use Rattle.event_index.specs.declared.below_table.BelowTable.{BelowTable}
use Rattle.event_index.specs.declared.kinds.Kinds.{Kinds}
use Rattle.event_index.specs.declared.listed.Listed.{Listed}
use Rattle.event_index.specs.Kinds.{Adds, HasKinds}
use Rattle.event_index.specs.Listed.{IsListed}

-- whether one of the classes is below the type
abbrev pub any_below : App → Lists → List Name → Name → Bool
any_below app lists classes type = list_any (λ class. is_class_below app lists class type) classes

-- where the answer is yes, just those types come to the row
pub record AddsIf (kinds : Kinds) (old new : List ℕ) (test : Name → Bool) (answer : Bool) : Type 0 where
  pub long : length new ≡ length old
  pub adds : answer ≡ true → Adds kinds old new test

-- each row that is there is that of the class of its number
pub record AreSettled (app : App) (listed : Listed) (rows : List (Option (List ℕ))) : Type 0 where
  pub at : (i : ℕ) (c : Class) (row : List ℕ) → slice_get app.classes i ≡ Some c → slice_get rows i ≡ Some (Some row) → HasKinds listed.kinds row (is_class_below app listed.lists.now c.name)

-- no row is there
pub record AreNone (rows : List (Option (List ℕ))) : Type 0 where
  pub at : (i : ℕ) (row : List ℕ) → slice_get rows i ≡ Some (Some row) → ⊥

pub record IsBelowTable (table : BelowTable) : Type 0 where
  pub listed : IsListed table.listed
  pub rows : AreSettled table.app.now table.listed table.rows.items
