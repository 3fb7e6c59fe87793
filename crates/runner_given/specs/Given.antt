-- What the library has.
use Rattle.std.specs.Prelude.{◌≡◌, ℕ, List, ◌++◌, Some, filter_map, length}
use Rattle.app_machine.specs.declared.app.App.{App}
use Rattle.app_machine.specs.Heap.{Value}
use Rattle.app_machine.specs.State.{ComponentState, object_at}
use Rattle.app_machine.specs.Summaries.{numbers_from}
use Rattle.played_machine.specs.Librarian.{live_place}
use Rattle.played_machine.specs.Reading.{handed_places}

-- the object at the place, as a value
abbrev pub object_there : ℕ → Value
object_there p = object_at (Some p)

-- these places are handed behind those that were handed before
abbrev pub IsHandedSince : List ℕ → List ℕ → List ℕ → Type 0
IsHandedSince before new all = handed_places all ≡ before ++ new

-- the places of the components that are there, ascending
abbrev pub live_in : App → (ℕ → ComponentState) → List ℕ
live_in app components = filter_map (λ c. live_place (components c)) (numbers_from 0 (length app.components))
