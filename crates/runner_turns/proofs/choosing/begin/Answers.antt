use Rattle.std.proofs.Common.{List, Some, sym, ap}
use Rattle.app_machine.specs.State.{Frame}
use Rattle.played_machine.specs.Local.{playing}
use Rattle.runner_calls.specs.Frames.{frames_of}
use Rattle.runner_steps.specs.State.{playing_in}
use Rattle.runner_steps.proofs.Alike.{made}
use Rattle.runner_turns.specs.Ways.{begins}
use Rattle.runner_turns.proofs.choosing.begin.Goals as goal
use Rattle.runner_world.specs.World.{world_in}

pub returns : goal.returns
returns c =
    made (begins c.args.ground.now.app.now (world_in c.args.playing.now.world) (frames_of c.args.playing.now.frames) c.args.body c.args.script.left.now) (playing_in c.args.playing.now)
    (playing (world_in c.args.playing.now.world) (frames_of c.enter.new.self)) c.args.script
    (ap (λ (fs : List Frame). Some (playing (world_in c.args.playing.now.world) fs, c.args.script.left.now)) (sym c.in_ok-enter.ensures))
