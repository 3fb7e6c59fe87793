use Rattle.std.proofs.Common.{ap}
use Rattle.app_machine.specs.State.{ComponentState}
use Rattle.runner_begin.proofs.Coming.{lived_is}
use Rattle.runner_begin.proofs.event.lived.Goals as goal
use Rattle.runner_world.specs.Shown.{state_of}
use Rattle.runner_world.specs.World.{world_in}

pub returns : goal.returns
returns c = lived_is (world_in c.args.world.now) c.args.component c.args.to c.args.body (state_of c.in_state.result) c.get-place.result.place c.in_state.ensures (ap (λ (s : ComponentState). s.place) c.get-place.ensures)
