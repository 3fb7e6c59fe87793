use Rattle.runner_begin.proofs.Coming.{born_is}
use Rattle.runner_begin.proofs.event.born.Goals as goal
use Rattle.runner_world.specs.Shown.{state_of}
use Rattle.runner_world.specs.World.{world_in}

pub returns : goal.returns
returns c = born_is (world_in c.args.world.now) c.args.component c.args.to c.args.body (state_of c.in_state.result) c.args.class.now c.next_place.result c.in_state.ensures c.next_place.ensures
