use Rattle.std.proofs.Common.{◌∷◌, List, Some, false, map, refl, sym, ap, ◌∙◌}
use Rattle.app_machine.specs.Calls.{arguments}
use Rattle.app_machine.specs.Heap.{Value}
use Rattle.app_machine.specs.State.{Frame}
use Rattle.played_machine.specs.Calling.{code_of}
use Rattle.played_machine.specs.Drawing.{give}
use Rattle.played_machine.specs.Local.{playing}
use Rattle.runner_calls.specs.Frames.{entered_with, frames_of}
use Rattle.runner_state.specs.declared.value.Held.{Held}
use Rattle.runner_state.specs.Shown.{frame_in, value_of}
use Rattle.runner_steps.specs.State.{on_running, playing_in}
use Rattle.runner_steps.proofs.Alike.{made}
use Rattle.runner_steps.proofs.Running.{none_runs, one_runs, with_top}
use Rattle.runner_steps.proofs.calling.call_body.Goals as goal
use Rattle.runner_world.specs.World.{world_in}

pub returns-in-None : goal.returns-in-None
returns-in-None c = (
  sym (none_runs (λ (f : Frame) (fs : List Frame). give (playing (world_in c.args.playing.now.world) (entered_with (code_of c.args.ground.now.app.now c.args.body) c.args.body (arguments f c.args.args.now) false (f ∷ fs)))) c.args.script.left.now
      (frames_of c.args.playing.now.frames) c.in-None.ensures),
  refl,
)

pub returns-in_ok-enter-in-Some : goal.returns-in_ok-enter-in-Some
returns-in_ok-enter-in-Some c =
    made (on_running (λ (f : Frame) (fs : List Frame). give (playing (world_in c.args.playing.now.world) (entered_with (code_of c.args.ground.now.app.now c.args.body) c.args.body (arguments f c.args.args.now) false (f ∷ fs)))) (frames_of c.args.playing.now.frames) c.args.script.left.now)
    (playing_in c.args.playing.now) (playing (world_in c.args.playing.now.world) (frames_of c.enter.new.self)) c.args.script
    (one_runs (λ (f : Frame) (fs : List Frame). give (playing (world_in c.args.playing.now.world) (entered_with (code_of c.args.ground.now.app.now c.args.body) c.args.body (arguments f c.args.args.now) false (f ∷ fs)))) c.args.script.left.now
    (frames_of c.args.playing.now.frames) (frame_in c.in-Some.running.now) c.in-Some.ensures
    ∙ ap (λ (fs : List Frame). Some (playing (world_in c.args.playing.now.world) fs, c.args.script.left.now))
    (sym (c.in_ok-enter-in-Some.ensures
    ∙ (ap (λ (xs : List Held). entered_with (code_of c.args.ground.now.app.now c.args.body) c.args.body (map value_of xs) false (frames_of c.args.playing.now.frames)) c.as_slice-slice.ensures.value
    ∙ (ap (λ (vs : List Value). entered_with (code_of c.args.ground.now.app.now c.args.body) c.args.body vs false (frames_of c.args.playing.now.frames)) c.in_ok-arguments-in-Some.ensures
    ∙ ap (entered_with (code_of c.args.ground.now.app.now c.args.body) c.args.body (arguments (frame_in c.in-Some.running.now) c.args.args.now) false) (with_top (frames_of c.args.playing.now.frames) (frame_in c.in-Some.running.now) c.in-Some.ensures))))))
