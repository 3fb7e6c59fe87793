-- The world of a run, as the machine says it.
use Rattle.std.specs.Prelude.{map, reverse}
use Rattle.app_machine.specs.State as state
use Rattle.runner_heap.specs.Objects.{heap_of}
use Rattle.runner_state.specs.Shown.{held_at}
use Rattle.runner_world.specs.declared.world.World.{World}
use Rattle.runner_world.specs.Shown.{arrival_of, life_at}

-- the machine puts a newly handed place in front
abbrev pub world_in : World → state.World
world_in w = record {
  heap = heap_of w.heap;
  statics = held_at w.statics;
  components = life_at w.components;
  handed = reverse w.handed;
  arrivals = map arrival_of w.arrivals.items;
}
