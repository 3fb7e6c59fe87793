use Rattle.std.proofs.Common.{List, ℕ, Option, subst, ◌∙◌}
use Rattle.std.specs.Prelude.{IfOk}
use Rattle.played_machine.specs.Local as local
use Rattle.runner_calls.specs.Frames.{frames_of}
use Rattle.runner_state.specs.Shown.{frame_in}
use Rattle.runner_steps.specs.Doing.{drawing_of}
use Rattle.runner_steps.specs.State.{Makes, playing_in}
use Rattle.runner_turns.proofs.Ways.{turn_is}
use Rattle.runner_turns.proofs.stepping.step_running.Goals as goal
use Rattle.runner_world.specs.World.{world_in}

pub returns-in_ok-first-in-Some-clause-made : goal.returns-in_ok-first-in-Some-clause-made
returns-in_ok-first-in-Some-clause-made c =
    subst (λ (drawn : Option (local.Playing × List ℕ)). IfOk c.choose.result (Makes drawn (playing_in c.args.playing.now) (playing_in c.choose.new.playing)))
    (turn_is c.args.ground.now.app.now c.args.ground.now.lists.now (world_in c.args.playing.now.world) (frames_of c.args.playing.now.frames) (frame_in c.in-Some.running.now) c.as_slice.result.now
    (drawing_of c.args.ground.now.app.now c.args.ground.now.lists.now (world_in c.args.playing.now.world) (frames_of c.args.playing.now.frames) c.doing_here-does.result) c.args.script.left.now c.in-Some.ensures
    (c.as_slice.ensures.value ∙ c.in_ok-first-in-Some.ensures) c.doing_here-does.ensures.same)
    c.choose.ensures.made
