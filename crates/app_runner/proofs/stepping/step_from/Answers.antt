use Rattle.std.proofs.Common.{ℕ, List, sym, subst}
use Rattle.app_runner.proofs.Steps.{made_by, no_frame, of_frame}
use Rattle.app_runner.proofs.stepping.step_from.Goals as goal
use Rattle.played_growth.specs.Growth.{classes_of}
use Rattle.played_machine.specs.Drawn.{drawn_step}
use Rattle.played_machine.specs.Step.{ways}
use Rattle.runner_below.specs.Kept.{AreBelow}
use Rattle.runner_calls.specs.Frames.{frames_of}
use Rattle.runner_heap.specs.Objects.{heap_of}
use Rattle.runner_state.specs.Shown.{frame_in}
use Rattle.runner_steps.specs.State.{on_running, playing_in}
use Rattle.runner_turns.specs.Ways.{one_way}
use Rattle.runner_world.specs.World.{world_in}

pub step_event-requires-clause-idle : goal.step_event-requires-clause-idle
step_event-requires-clause-idle c = no_frame (frames_of c.args.playing.now.frames) c.in-None.ensures

pub step_running-requires-clause-fits : goal.step_running-requires-clause-fits
step_running-requires-clause-fits c =
    subst (λ (places : List ℕ). AreBelow c.args.ground.now.app.now c.args.ground.now.lists.now (classes_of (heap_of c.args.playing.now.world.heap)) places c.args.known.now.belows) c.each_stands_once.ensures c.requires.known.belows

pub returns-in_ok-left-in-Some-clause-made : goal.returns-in_ok-left-in-Some-clause-made
returns-in_ok-left-in-Some-clause-made c =
    made_by (on_running (λ f fs. one_way (ways c.args.ground.now.app.now c.args.ground.now.lists.now (world_in c.args.playing.now.world) f fs)) (frames_of c.args.playing.now.frames) c.args.script.left.now)
    (drawn_step c.args.ground.now.app.now c.args.ground.now.lists.now (playing_in c.args.playing.now) c.args.script.left.now) (playing_in c.args.playing.now) (playing_in c.step_running.new.playing) c.in_ok-left-in-Some.left
    (of_frame c.args.ground.now.app.now c.args.ground.now.lists.now (world_in c.args.playing.now.world) c.args.script.left.now (frames_of c.args.playing.now.frames) (frame_in c.in-Some._running.now) c.in-Some.ensures)
    c.in_ok-left-in-Some.ensures.made

pub returns-in_ok-left-in-Some-clause-known : goal.returns-in_ok-left-in-Some-clause-known
returns-in_ok-left-in-Some-clause-known c = record {
  menu = c.requires.known.menu;
  belows = subst (λ (places : List ℕ). AreBelow c.args.ground.now.app.now c.args.ground.now.lists.now (classes_of (heap_of c.args.playing.now.world.heap)) places c.step_running.new.belows) (sym c.each_stands_once.ensures) c.in_ok-left-in-Some.ensures.fits;
}
