-- Events with a receiver, as the code has them.
use Rattle.std.specs.Prelude.{ℕ, List, [], ◌∷◌, ◌++◌}
use Rattle.app_machine.specs.Events.{set_component}
use Rattle.app_machine.specs.Heap.{Object}
use Rattle.app_machine.specs.State.{World, ComponentState, new_object}
use Rattle.played_machine.specs.Coming.{Event, Receives}
use Rattle.runner_begin.specs.declared.event.Change.{Change}
use Rattle.runner_begin.specs.declared.event.Change.TheVariants.{Keeps, Sets, Makes}
use Rattle.runner_begin.specs.declared.event.Received.{Received}
use Rattle.runner_world.specs.Shown.{state_of}

-- with the object that comes to life
abbrev pub heap_by : List Object → Change → List Object
heap_by heap Keeps = heap
heap_by heap (Sets c life) = heap
heap_by heap (Makes c class life) = heap ++ new_object class.now ∷ []

-- the component is in its state
abbrev pub lives_by : (ℕ → ComponentState) → Change → ℕ → ComponentState
lives_by lives Keeps = lives
lives_by lives (Sets c life) = set_component lives c (state_of life)
lives_by lives (Makes c class life) = set_component lives c (state_of life)

abbrev pub changed_by : World → Change → World
changed_by w change = record w { heap = heap_by w.heap change; components = lives_by w.components change }

abbrev pub event_by : World → Received → Event
event_by w received = Receives received.body received.place received.sources.now (changed_by w received.change)
