use Rattle.runner_calls.specs.Frames.{frames_of}
use Rattle.runner_steps.proofs.Does.{none_there}
use Rattle.runner_steps.proofs.doing.doing_here.Goals as goal
use Rattle.runner_world.specs.World.{world_in}

pub returns-in-None-clause-same : goal.returns-in-None-clause-same
returns-in-None-clause-same c = none_there c.args.ground.now.app.now c.args.ground.now.lists.now (world_in c.args.world.now) (frames_of c.args.frames.now) c.in-None.ensures
