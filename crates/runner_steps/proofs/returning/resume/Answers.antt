use Rattle.std.proofs.Common.{ℕ, List, Option, drop, subst}
use Rattle.std.specs.Prelude.{IfOk}
use Rattle.played_machine.specs.Local as local
use Rattle.runner_calls.specs.Frames.{frames_of}
use Rattle.runner_state.specs.Shown.{value_of}
use Rattle.runner_steps.specs.Back.{again_or_on}
use Rattle.runner_steps.specs.State.{Makes, playing_in}
use Rattle.runner_steps.proofs.Alike.{made}
use Rattle.runner_steps.proofs.Returns.{again, otherwise}
use Rattle.runner_steps.proofs.returning.resume.Goals as goal
use Rattle.runner_world.specs.World.{world_in}

pub returns-then-initialises : goal.returns-then-initialises
returns-then-initialises c =
    made (again_or_on (world_in c.args.playing.now.world) (value_of c.args.value) c.args.next.now (drop 1 (frames_of c.args.playing.now.frames)) c.args.initialises c.args.script.left.now) (playing_in c.args.playing.now)
    (local.playing (world_in c.args.playing.now.world) (frames_of c.leave.new.self)) c.args.script
    (again (world_in c.args.playing.now.world) (value_of c.args.value) c.args.next.now (drop 1 (frames_of c.args.playing.now.frames)) c.args.script.left.now c.args.initialises (frames_of c.leave.new.self) c.if-initialises.true c.leave.ensures)

pub returns-else-initialises : goal.returns-else-initialises
returns-else-initialises c =
    subst (λ (drawn : Option (local.Playing × List ℕ)). IfOk c.go_on_next.result (Makes drawn (playing_in c.args.playing.now) (playing_in c.go_on_next.new.playing)))
    (otherwise (world_in c.args.playing.now.world) (value_of c.args.value) c.args.next.now (drop 1 (frames_of c.args.playing.now.frames)) c.args.script.left.now c.args.initialises c.if-initialises.false) c.go_on_next.ensures
