use Rattle.runner_heap.specs.Objects.{heap_of}
use Rattle.runner_state.specs.Shown.{held_at}
use Rattle.runner_world.specs.Shown.{life_at}
use Rattle.runner_world.proofs.Starting.{nothing_yet}
use Rattle.runner_world.proofs.world.World.new.Goals as goal

pub returns : goal.returns
returns c = nothing_yet (heap_of c.new.result) (held_at c.new-2.result) (life_at c.new-3.result) c.new-4.result c.new-5.result.items c.new.ensures c.new-2.ensures c.new-3.ensures c.new-4.ensures c.new-5.ensures.items
