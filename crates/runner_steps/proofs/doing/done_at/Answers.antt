use Rattle.runner_calls.specs.Frames.{frames_of}
use Rattle.runner_state.specs.Shown.{frame_in}
use Rattle.runner_steps.proofs.Does.{by_step, no_step}
use Rattle.runner_steps.proofs.doing.done_at.Goals as goal
use Rattle.runner_world.specs.World.{world_in}

pub returns-in-None-clause-same : goal.returns-in-None-clause-same
returns-in-None-clause-same c = no_step c.args.ground.now.app.now c.args.ground.now.lists.now (world_in c.args.world.now) (frames_of c.args.frames.now) (frame_in c.args.running.now) c.requires.top c.in-None.ensures.same

pub returns-in-Some-clause-same : goal.returns-in-Some-clause-same
returns-in-Some-clause-same c = by_step c.args.ground.now.app.now c.args.ground.now.lists.now (world_in c.args.world.now) (frames_of c.args.frames.now) (frame_in c.args.running.now) c.requires.top c.done_by.result c.in-Some.step.now c.in-Some.ensures.same c.done_by.ensures.same
