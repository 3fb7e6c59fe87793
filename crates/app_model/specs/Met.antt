-- What is added to the classes that a search has met, by their numbers: those that were seen, and those that wait for their turn.
use Rattle.std.specs.Prelude.{◌≡◌, ◌⊎◌, ℕ, Bool, true, false, List, Some, slice_get}
use Rattle.app_machine.specs.declared.app.App.{App}
use Rattle.app_machine.specs.declared.app.Class.{Class}
use Rattle.vet_base.specs.Members.{In}
use Rattle.app_machine.specs.Names.{Name}
use Rattle.app_machine.specs.Lookups.{class_named}

-- the class of the name, where there is one, was seen
abbrev pub Settled : App → (ℕ → Bool) → Name → Type 0
Settled app seen name = (c : Class) → class_named app name ≡ Some c → (j : ℕ) × (slice_get app.classes j ≡ Some c) × (seen j ≡ true)

-- the number is that of the class of one of the names
pub record IsNumbered (app : App) (names : List Name) (j : ℕ) : Type 0 where
  pub name : Name
  pub class : Class
  pub is_one : In name names
  pub there : class_named app name ≡ Some class
  pub at : slice_get app.classes j ≡ Some class

-- the classes of the names are added: those that were not seen wait
pub record Adds (app : App) (names : List Name) (seen waiting new_seen new_waiting : ℕ → Bool) : Type 0 where
  pub kept : (j : ℕ) → seen j ≡ true → new_seen j ≡ true
  pub settled : (name : Name) → In name names → Settled app new_seen name
  pub comes : (j : ℕ) → new_seen j ≡ true → (seen j ≡ true) ⊎ IsNumbered app names j
  pub waits : (j : ℕ) → new_waiting j ≡ true → (waiting j ≡ true) ⊎ ((seen j ≡ false) × (new_seen j ≡ true))
  pub rest : (j : ℕ) → new_seen j ≡ true → new_waiting j ≡ false → (seen j ≡ true) × (waiting j ≡ false)
