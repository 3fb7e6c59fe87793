use Rattle.std.proofs.Common.{ℕ, List, Option, drop, refl, sym, ap, ◌∙◌, subst}
use Rattle.std.specs.Prelude.{IfOk}
use Rattle.played_machine.specs.Local as local
use Rattle.runner_calls.specs.Frames.{frames_of}
use Rattle.runner_state.specs.Shown.{frame_in}
use Rattle.runner_steps.specs.Back.{back_to, returns_to}
use Rattle.runner_steps.specs.State.{Makes, playing_in}
use Rattle.runner_steps.proofs.Running.{none_runs, one_runs}
use Rattle.runner_steps.proofs.returning.return_from.Goals as goal
use Rattle.runner_world.specs.World.{world_in}

pub returns-in-None : goal.returns-in-None
returns-in-None c = (sym (none_runs (returns_to c.args.ground.now.app.now (world_in c.args.playing.now.world) c.args.register) c.args.script.left.now (frames_of c.args.playing.now.frames) c.in-None.ensures), refl)

pub returns-in-Some : goal.returns-in-Some
returns-in-Some c =
    subst (λ (drawn : Option (local.Playing × List ℕ)). IfOk c.go_back.result (Makes drawn (playing_in c.args.playing.now) (playing_in c.go_back.new.playing)))
    (ap (λ v. back_to c.args.ground.now.app.now (world_in c.args.playing.now.world) v c.in-Some.running.now.initialises (drop 1 (frames_of c.args.playing.now.frames)) c.args.script.left.now) c.returned-result.ensures
    ∙ sym (one_runs (returns_to c.args.ground.now.app.now (world_in c.args.playing.now.world) c.args.register) c.args.script.left.now (frames_of c.args.playing.now.frames) (frame_in c.in-Some.running.now) c.in-Some.ensures))
    c.go_back.ensures
