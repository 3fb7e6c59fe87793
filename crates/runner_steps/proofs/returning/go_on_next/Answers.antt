use Rattle.std.proofs.Common.{drop, refl}
use Rattle.played_machine.specs.Local as local
use Rattle.runner_calls.specs.Frames.{frames_of}
use Rattle.runner_state.specs.Shown.{value_of}
use Rattle.runner_steps.specs.Back.{on_with}
use Rattle.runner_steps.specs.State.{playing_in}
use Rattle.runner_steps.proofs.Alike.{made}
use Rattle.runner_steps.proofs.Returns.{goes_on, nowhere}
use Rattle.runner_steps.proofs.returning.go_on_next.Goals as goal
use Rattle.runner_world.specs.World.{world_in}

pub returns-in-None : goal.returns-in-None
returns-in-None c = (nowhere (world_in c.args.playing.now.world) (value_of c.args.value) c.args.next.now (drop 1 (frames_of c.args.playing.now.frames)) c.args.script.left.now c.in-None.ensures, refl)

pub returns-in_ok-go_on-in-Some : goal.returns-in_ok-go_on-in-Some
returns-in_ok-go_on-in-Some c =
    made (on_with (world_in c.args.playing.now.world) (value_of c.args.value) c.args.next.now (drop 1 (frames_of c.args.playing.now.frames)) c.args.script.left.now) (playing_in c.args.playing.now)
    (local.playing (world_in c.args.playing.now.world) (frames_of c.go_on.new.self)) c.in-Some.left
    (goes_on (world_in c.args.playing.now.world) (value_of c.args.value) c.args.next.now (drop 1 (frames_of c.args.playing.now.frames)) c.args.script.left.now c.in-Some.pc c.in-Some.left.left.now (frames_of c.leave.new.self) (frames_of c.go_on.new.self)
    c.in-Some.ensures c.leave.ensures c.in_ok-go_on-in-Some.ensures)
