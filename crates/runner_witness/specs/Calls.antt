-- What library calls do with small values.
use Rattle.std.specs.Prelude.{◌≡◌, ℕ, List, [], ◌∷◌, Some, None, codes}
use Rattle.app_machine.specs.declared.app.App.{App}
use Rattle.app_machine.specs.declared.lists.Lists.{Lists}
use Rattle.app_machine.specs.declared.summary.Gives.TheVariants as gives
use Rattle.app_machine.specs.Heap.{Value, Object, blank, labelled}
use Rattle.app_machine.specs.Lookups.{elem_key}
use Rattle.app_machine.specs.Names.{Name}
use Rattle.app_machine.specs.State.{Arrival, World}
use Rattle.runner_library.specs.Over.{copies_by, hand_each, joined_by, puts_by}
use Rattle.runner_library.specs.Whole.{arrivals_for, given_by, read_for}

-- the receiver holds the object at the place 0, with the label 5; the argument the label 4
abbrev pub receiver : Value
receiver = record { place = Some 0; labels = 5 ∷ [] }

abbrev pub values : List Value
values = receiver ∷ labelled (4 ∷ []) ∷ []

abbrev pub arrival : ℕ → Arrival
arrival label = record { label = label; sink = 3; method = 1; pc = 6 }

abbrev pub void : Name
void = codes "V"

abbrev pub number : Name
number = codes "I"

-- an object with an element
abbrev pub full : Name → Object
full class = record { class = class; entries = (elem_key, labelled (8 ∷ [])) ∷ [] }

pub record CallsTell : Type 0 where
  -- by position ascending, and not by label; a position that stands twice counts twice; all that is reached arrives
  pub by_position : arrivals_for [] values 1 6 (Some (3, 1 ∷ 0 ∷ [])) ≡ arrival 5 ∷ arrival 4 ∷ []
  pub twice : arrivals_for [] values 1 6 (Some (3, 1 ∷ 1 ∷ [])) ≡ arrival 4 ∷ arrival 4 ∷ []
  pub from_within : (class : Name) → arrivals_for (full class ∷ []) values 1 6 (Some (3, 0 ∷ [])) ≡ arrival 5 ∷ arrival 8 ∷ []
  pub no_sink : arrivals_for [] values 1 6 None ≡ []
  -- a joined result has the receiver's labels too, and that of the row
  pub joins : joined_by [] values (0 ∷ 1 ∷ []) (Some 7) ≡ 4 ∷ 5 ∷ 7 ∷ []
  -- a put is of the first position into the second, where that has an object
  pub puts : puts_by values ((1, 0) ∷ []) ≡ (0, labelled (4 ∷ [])) ∷ []
  pub puts_nowhere : puts_by values ((0, 1) ∷ []) ≡ []
  pub copies : (class : Name) → copies_by (full class ∷ []) values ((0, 0) ∷ []) ≡ (0, labelled (8 ∷ [])) ∷ []
  -- the receiver's place is handed, and the argument has none
  pub hands : hand_each values [] ≡ 0 ∷ []
  -- what is taken of an object takes a byte; of no object, or where the method is void, it takes none, nor does another result
  pub takes : (app : App) (lists : Lists) (w : World) (class : Name) (bytes : List ℕ) → read_for app lists (record w { heap = full class ∷ [] }) values number (gives.Taken 0) (0 ∷ bytes) ≡ Some (labelled (8 ∷ []), bytes)
  pub too_few : (app : App) (lists : Lists) (w : World) (class : Name) → read_for app lists (record w { heap = full class ∷ [] }) values number (gives.Taken 0) [] ≡ None
  pub of_nothing : (app : App) (lists : Lists) (w : World) (bytes : List ℕ) → read_for app lists w values number (gives.Taken 1) bytes ≡ Some (blank, bytes)
  pub of_void : (app : App) (lists : Lists) (w : World) (bytes : List ℕ) → read_for app lists w values void (gives.Taken 0) bytes ≡ Some (blank, bytes)
  pub of_same : (app : App) (lists : Lists) (w : World) (bytes : List ℕ) → read_for app lists w values number (gives.Same 0) bytes ≡ Some (blank, bytes)
  -- the value itself, with its place
  pub same : (app : App) (statics : ℕ → Value) (heap : List Object) (v : Value) → given_by app [] values None number statics heap v (gives.Same 0) ≡ (heap, receiver)
