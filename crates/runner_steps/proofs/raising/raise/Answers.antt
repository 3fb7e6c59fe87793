use Rattle.std.proofs.Common.{List, Some, refl, sym, ap, ◌∙◌}
use Rattle.app_machine.specs.State.{Frame}
use Rattle.played_machine.specs.Drawing.{continue, give}
use Rattle.played_machine.specs.Local.{playing, raised}
use Rattle.runner_calls.proofs.Tied.{raised_is}
use Rattle.runner_calls.specs.Frames.{frames_of}
use Rattle.runner_calls.specs.Landing.{landed}
use Rattle.runner_state.specs.Shown.{value_of}
use Rattle.runner_steps.specs.State.{playing_in}
use Rattle.runner_steps.proofs.Alike.{made}
use Rattle.runner_steps.proofs.raising.raise.Goals as goal
use Rattle.runner_world.specs.World.{world_in}

pub returns-in-None : goal.returns-in-None
returns-in-None c = (
  raised_is c.args.ground.now.app.now (value_of c.args.value) (world_in c.args.playing.now.world) (frames_of c.args.playing.now.frames) c.args.script.left.now
      ∙ ap (continue (λ at. give (playing (world_in c.args.playing.now.world) (landed (value_of c.args.value) (frames_of c.args.playing.now.frames) at)))) (sym c.in-None.ensures),
  refl,
)

pub returns-in_ok-land-in-Some : goal.returns-in_ok-land-in-Some
returns-in_ok-land-in-Some c =
    made (raised c.args.ground.now.app.now (value_of c.args.value) (world_in c.args.playing.now.world) (frames_of c.args.playing.now.frames) c.args.script.left.now) (playing_in c.args.playing.now) (playing (world_in c.args.playing.now.world) (frames_of c.land.new.self)) c.in-Some.left
    (raised_is c.args.ground.now.app.now (value_of c.args.value) (world_in c.args.playing.now.world) (frames_of c.args.playing.now.frames) c.args.script.left.now
    ∙ (ap (continue (λ at. give (playing (world_in c.args.playing.now.world) (landed (value_of c.args.value) (frames_of c.args.playing.now.frames) at)))) (sym c.in-Some.ensures)
    ∙ ap (λ (fs : List Frame). Some (playing (world_in c.args.playing.now.world) fs, c.in-Some.left.left.now)) (sym c.in_ok-land-in-Some.ensures)))
