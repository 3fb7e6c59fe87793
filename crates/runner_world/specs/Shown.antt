-- The parts of a world, as the machine says them.
use Rattle.std.specs.Prelude.{◌≡◌, ℕ, Option, Some, None, slice_get}
use Rattle.app_machine.specs.State as state
use Rattle.app_machine.specs.State.{ComponentState}
use Rattle.runner_world.specs.declared.arrival.Arrival.{Arrival}
use Rattle.runner_world.specs.declared.lives.Life.{Life}
use Rattle.runner_world.specs.declared.lives.Lives.{Lives}

abbrev pub absent : ComponentState
absent = record { state = 0; place = None }

abbrev pub state_of : Life → ComponentState
state_of life = record { state = life.state; place = life.place }

abbrev pub state_or_absent : Option Life → ComponentState
state_or_absent None = absent
state_or_absent (Some life) = state_of life

-- the state of the component of the number
abbrev pub life_at : Lives → ℕ → ComponentState
life_at lives c = state_or_absent (slice_get lives.items.items c)

-- both have the same state of each component
abbrev pub KeepsLives : Lives → Lives → Type 0
KeepsLives old new = life_at new ≡ life_at old

abbrev pub arrival_of : Arrival → state.Arrival
arrival_of a = record { label = a.label; sink = a.sink; method = a.method; pc = a.pc }
