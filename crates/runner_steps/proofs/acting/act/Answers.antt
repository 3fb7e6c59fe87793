use Rattle.std.proofs.Common.{refl}
use Rattle.runner_calls.specs.Frames.{frames_of}
use Rattle.runner_state.specs.Shown.{value_of}
use Rattle.runner_steps.specs.Given.{acted}
use Rattle.runner_steps.proofs.Acts.{acts_not, acts_so}
use Rattle.runner_steps.proofs.acting.act.Goals as goal
use Rattle.runner_world.specs.World.{world_in}

pub returns-in-None : goal.returns-in-None
returns-in-None c = (acts_not c.args.ground.now.app.now c.args.ground.now.lists.now (world_in c.args.playing.now.world) c.args.step.now (frames_of c.args.playing.now.frames) c.args.script.left.now c.in-None.ensures, refl)

pub returns-in_ok-change_running-in-Some : goal.returns-in_ok-change_running-in-Some
returns-in_ok-change_running-in-Some c = (
  acted c.args.ground.now.app.now c.args.ground.now.lists.now (world_in c.args.playing.now.world) c.args.step.now.act (value_of c.in-Some.given.read, c.in-Some.given.pc) (frames_of c.args.playing.now.frames),
  acts_so c.args.ground.now.app.now c.args.ground.now.lists.now (world_in c.args.playing.now.world) c.args.step.now (frames_of c.args.playing.now.frames) c.args.script.left.now (value_of c.in-Some.given.read, c.in-Some.given.pc) c.in-Some.left.left.now c.in-Some.ensures,
  c.in_ok-change_running-in-Some.ensures,
)
