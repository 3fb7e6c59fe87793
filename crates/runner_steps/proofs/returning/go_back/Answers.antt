use Rattle.std.proofs.Common.{ℕ, List, Option, subst}
use Rattle.std.specs.Prelude.{IfOk}
use Rattle.played_machine.specs.Local as local
use Rattle.runner_calls.specs.Frames.{frames_of}
use Rattle.runner_state.specs.Shown.{frame_in, value_of}
use Rattle.runner_steps.specs.State.{Makes, playing_in}
use Rattle.runner_steps.proofs.Returns.{ended, ends, ends_alike, goes_back}
use Rattle.runner_steps.proofs.returning.go_back.Goals as goal
use Rattle.runner_world.specs.World.{world_in}

pub returns-in_ok-end_event-in-None : goal.returns-in_ok-end_event-in-None
returns-in_ok-end_event-in-None c = (
  ended c.args.ground.now.app.now (world_in c.args.playing.now.world) (value_of c.args.value) c.args.initialises (frames_of c.args.playing.now.frames) c.args.script.left.now,
  ends c.args.ground.now.app.now (world_in c.args.playing.now.world) (value_of c.args.value) c.args.initialises (frames_of c.args.playing.now.frames) c.args.script.left.now c.in-None.ensures,
  ends_alike c.args.ground.now.app.now (world_in c.args.playing.now.world) (value_of c.args.value) c.args.initialises (frames_of c.args.playing.now.frames) c.args.script.left.now (world_in c.end_event.new.playing.world)
      (frames_of c.end_event.new.playing.frames) c.in-None.ensures c.in_ok-end_event-in-None.ensures.world c.in_ok-end_event-in-None.ensures.frames,
)

pub returns-in-Some : goal.returns-in-Some
returns-in-Some c =
    subst (λ (drawn : Option (local.Playing × List ℕ)). IfOk c.resume.result (Makes drawn (playing_in c.args.playing.now) (playing_in c.resume.new.playing)))
    (goes_back c.args.ground.now.app.now (world_in c.args.playing.now.world) (value_of c.args.value) c.args.initialises (frames_of c.args.playing.now.frames) c.args.script.left.now (frame_in c.in-Some.caller.now) c.next_of-next.result.now
    c.in-Some.ensures c.next_of-next.ensures)
    c.resume.ensures
