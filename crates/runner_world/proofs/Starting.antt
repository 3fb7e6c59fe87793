-- The world of a run that has not begun.
use Rattle.std.proofs.Common.{◌≡◌, ℕ, List, [], map, reverse, ap, ◌∙◌}
use Rattle.app_machine.specs.Heap.{Value, Object, blank}
use Rattle.app_machine.specs.Run.{start_world}
use Rattle.app_machine.specs.State as state
use Rattle.app_machine.specs.State.{ComponentState}
use Rattle.runner_world.specs.declared.arrival.Arrival.{Arrival}
use Rattle.runner_world.specs.Shown.{absent, arrival_of}

abbrev world_by : List Object → (ℕ → Value) → (ℕ → ComponentState) → List ℕ → List Arrival → state.World
world_by heap statics components handed arrivals = record { heap = heap; statics = statics; components = components; handed = reverse handed; arrivals = map arrival_of arrivals }

pub nothing_yet : (heap : List Object) (statics : ℕ → Value) (components : ℕ → ComponentState) (handed : List ℕ) (arrivals : List Arrival) →
    heap ≡ [] → statics ≡ (λ i. blank) → components ≡ (λ c. absent) → handed ≡ [] → arrivals ≡ [] → world_by heap statics components handed arrivals ≡ start_world
nothing_yet heap statics components handed arrivals one two three four five =
    ap (λ z. world_by z statics components handed arrivals) one
    ∙ (ap (λ z. world_by [] z components handed arrivals) two
    ∙ (ap (λ z. world_by [] (λ i. blank) z handed arrivals) three
    ∙ (ap (λ z. world_by [] (λ i. blank) (λ c. absent) z arrivals) four
    ∙ ap (λ z. world_by [] (λ i. blank) (λ c. absent) [] z) five)))
