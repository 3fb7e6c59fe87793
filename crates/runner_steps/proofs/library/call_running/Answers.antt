use Rattle.std.proofs.Common.{refl}
use Rattle.runner_calls.specs.Frames.{frames_of}
use Rattle.runner_library.specs.Call.{row_in, values_in}
use Rattle.runner_state.specs.Shown.{value_of}
use Rattle.runner_steps.specs.Went.{called_by}
use Rattle.runner_steps.proofs.Went.{called_not, called_so}
use Rattle.runner_steps.proofs.library.call_running.Goals as goal
use Rattle.runner_world.specs.World.{world_in}

pub returns-in-None : goal.returns-in-None
returns-in-None c f top = (called_not c.args.ground.now.app.now c.args.ground.now.lists.now (world_in c.args.playing.now.world) c.args.of c.args.next.now f (value_of c.args.read) (frames_of c.args.playing.now.frames) top c.args.script.left.now c.in-None.ensures, refl)

pub returns-in_ok-make_call-in-Some : goal.returns-in_ok-make_call-in-Some
returns-in_ok-make_call-in-Some c f top = (
  called_by c.args.ground.now.app.now c.args.ground.now.lists.now (world_in c.args.playing.now.world) (values_in c.args.of f.registers) f.method f.pc c.args.of.at.now.proto.ret (row_in c.args.of) (frames_of c.args.playing.now.frames) (value_of c.args.read) c.in-Some.after,
  called_so c.args.ground.now.app.now c.args.ground.now.lists.now (world_in c.args.playing.now.world) c.args.of c.args.next.now f (value_of c.args.read) (frames_of c.args.playing.now.frames) top c.args.script.left.now c.in-Some.after c.in-Some.left.left.now c.in-Some.ensures,
  c.in_ok-make_call-in-Some.ensures f top,
)
