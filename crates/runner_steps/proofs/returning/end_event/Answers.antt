use Rattle.std.proofs.Common.{reverse, sym}
use Rattle.app_machine.specs.Calls.{hand}
use Rattle.runner_state.specs.Shown.{value_of}
use Rattle.runner_steps.proofs.Alike.{handed_alike}
use Rattle.runner_steps.proofs.returning.end_event.Goals as goal
use Rattle.runner_world.specs.World.{world_in}

pub returns-clause-world : goal.returns-clause-world
returns-clause-world c =
    handed_alike (world_in c.args.playing.now.world) (hand (value_of c.args.value).place (reverse c.args.playing.now.world.handed)) (reverse c.hand.new.self) (sym c.in_ok-hand.ensures.ok)
