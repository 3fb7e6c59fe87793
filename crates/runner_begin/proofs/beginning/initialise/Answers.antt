use Rattle.runner_begin.proofs.Answered.{initialised}
use Rattle.runner_begin.proofs.beginning.initialise.Goals as goal
use Rattle.runner_calls.specs.Frames.{frames_of}
use Rattle.runner_steps.specs.State.{playing_in}
use Rattle.runner_world.specs.World.{world_in}

pub returns : goal.returns
returns c =
    initialised c.args.ground.now.app.now c.args.ground.now.lists.now (world_in c.args.playing.now.world) c.args.body (frames_of c.args.playing.now.frames) (frames_of c.enter.new.self) (playing_in c.args.playing.now) c.args.script c.requires.idle c.in_ok-enter.ensures
