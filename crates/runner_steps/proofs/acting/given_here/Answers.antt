use Rattle.std.proofs.Common.{List, sym, ◌∙◌}
use Rattle.app_machine.specs.State.{Frame}
use Rattle.runner_calls.specs.Frames.{frames_of}
use Rattle.runner_heap.specs.Objects.{heap_of}
use Rattle.runner_state.specs.Shown.{frame_in}
use Rattle.runner_steps.specs.Given.{given_to}
use Rattle.runner_steps.proofs.Running.{none_runs, one_runs}
use Rattle.runner_steps.proofs.acting.given_here.Goals as goal

pub returns-in-None : goal.returns-in-None
returns-in-None c = none_runs (λ (f : Frame) (fs : List Frame). given_to (heap_of c.args.playing.now.world.heap) f c.args.step.now) c.args.script.left.now (frames_of c.args.playing.now.frames) c.in-None.ensures

pub returns-in-Some : goal.returns-in-Some
returns-in-Some c =
    c.given_in.ensures
    ∙ sym (one_runs (λ (f : Frame) (fs : List Frame). given_to (heap_of c.args.playing.now.world.heap) f c.args.step.now) c.args.script.left.now (frames_of c.args.playing.now.frames) (frame_in c.in-Some.running.now) c.in-Some.ensures)
