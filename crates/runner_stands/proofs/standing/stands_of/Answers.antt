use Rattle.std.proofs.Common.{◌≡◌, List, map, subst}
use Rattle.std.specs.Prelude.{IfOk}
use Rattle.played_machine.specs.Standing as standing
use Rattle.runner_calls.specs.Frames.{frames_of}
use Rattle.runner_stands.specs.Stands.{stand_of}
use Rattle.runner_stands.proofs.Reasons.{at_frame, no_frame}
use Rattle.runner_stands.proofs.standing.stands_of.Goals as goal
use Rattle.runner_state.specs.Shown.{frame_in}
use Rattle.runner_world.specs.World.{world_in}

pub returns-in-None : goal.returns-in-None
returns-in-None c =
    subst (λ (all : List standing.Stand). IfOk c.native_bodies.result (λ stands. map stand_of stands.items ≡ all))
    (no_frame c.args.ground.now.app.now c.args.ground.now.lists.now (world_in c.args.playing.now.world) (frames_of c.args.playing.now.frames) c.in-None.ensures) c.native_bodies.ensures

pub returns-in-Some : goal.returns-in-Some
returns-in-Some c =
    subst (λ (all : List standing.Stand). IfOk c.stands_at.result (λ stands. map stand_of stands.items ≡ all))
    (at_frame c.args.ground.now.app.now c.args.ground.now.lists.now (world_in c.args.playing.now.world) (frames_of c.args.playing.now.frames) (frame_in c.in-Some.running.now) c.in-Some.ensures) c.stands_at.ensures
