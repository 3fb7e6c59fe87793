use Rattle.std.proofs.Common.{List, ℕ, Option, refl, sym, subst}
use Rattle.std.specs.Prelude.{IfOk}
use Rattle.played_machine.specs.Local as local
use Rattle.runner_calls.specs.Frames.{frames_of}
use Rattle.runner_state.specs.Shown.{value_of}
use Rattle.runner_steps.specs.State.{Makes, playing_in}
use Rattle.runner_steps.specs.Went.{called_in}
use Rattle.runner_steps.proofs.Running.{none_runs, one_runs}
use Rattle.runner_steps.proofs.library.call_given.Goals as goal
use Rattle.runner_world.specs.World.{world_in}

pub returns-in-None : goal.returns-in-None
returns-in-None c = (sym (none_runs (called_in c.args.ground.now.app.now c.args.ground.now.lists.now (world_in c.args.playing.now.world) c.args.of c.args.next.now (value_of c.args.read)) c.args.script.left.now (frames_of c.args.playing.now.frames) c.in-None.ensures), refl)

pub returns-in-Some : goal.returns-in-Some
returns-in-Some c =
    subst (λ (drawn : Option (local.Playing × List ℕ)). IfOk c.call_running.result (Makes drawn (playing_in c.args.playing.now) (playing_in c.call_running.new.playing)))
    (sym (one_runs (called_in c.args.ground.now.app.now c.args.ground.now.lists.now (world_in c.args.playing.now.world) c.args.of c.args.next.now (value_of c.args.read)) c.args.script.left.now (frames_of c.args.playing.now.frames) _ c.in-Some.ensures))
    (c.call_running.ensures _ c.in-Some.ensures)
