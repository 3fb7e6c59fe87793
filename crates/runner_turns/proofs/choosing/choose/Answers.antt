use Rattle.std.proofs.Common.{◌+◌, ◌∙◌, length, List, ℕ, Option, refl, subst, arith}
use Rattle.std.specs.Prelude.{IfOk}
use Rattle.played_machine.specs.Local as local
use Rattle.runner_calls.specs.Frames.{frames_of}
use Rattle.runner_steps.specs.Doing.{drawing_of}
use Rattle.runner_steps.specs.State.{Makes, playing_in}
use Rattle.runner_turns.specs.Ways.{ways_of}
use Rattle.runner_turns.proofs.Ways.{count_own, count_ways, none_drawn, one_drawn}
use Rattle.runner_turns.proofs.choosing.choose.Goals as goal
use Rattle.runner_world.specs.World.{world_in}

pub go-requires-clause-within : goal.go-requires-clause-within
go-requires-clause-within c = omega (arith, c.in-Some.ensures.below, c.count.ensures.same)

pub returns-in-None-clause-made : goal.returns-in-None-clause-made
returns-in-None-clause-made c =
    let does = drawing_of c.args.ground.now.app.now c.args.ground.now.lists.now (world_in c.args.playing.now.world) (frames_of c.args.playing.now.frames) c.args.does in (
      none_drawn (ways_of c.args.ground.now.app.now (world_in c.args.playing.now.world) (frames_of c.args.playing.now.frames) c.args.first.now does) (length c.args.first.now + c.count.result + 1) c.args.script.left.now
          (count_ways c.args.ground.now.app.now (world_in c.args.playing.now.world) (frames_of c.args.playing.now.frames) c.args.first.now does (length c.args.first.now + c.count.result + 1) c.count.result
          (c.count.ensures.same ∙ count_own c.args.ground.now.app.now c.args.ground.now.lists.now (world_in c.args.playing.now.world) (frames_of c.args.playing.now.frames) c.args.does c.requires.runs) (omega arith))
          c.in-None.ensures.drawn,
      refl,
    )

pub returns-in-Some-clause-made : goal.returns-in-Some-clause-made
returns-in-Some-clause-made c =
    let does = drawing_of c.args.ground.now.app.now c.args.ground.now.lists.now (world_in c.args.playing.now.world) (frames_of c.args.playing.now.frames) c.args.does in
    subst (λ (drawn : Option (local.Playing × List ℕ)). IfOk c.go.result (Makes drawn (playing_in c.args.playing.now) (playing_in c.go.new.playing)))
    (one_drawn (ways_of c.args.ground.now.app.now (world_in c.args.playing.now.world) (frames_of c.args.playing.now.frames) c.args.first.now does) (length c.args.first.now + c.count.result + 1) c.args.script.left.now
    (count_ways c.args.ground.now.app.now (world_in c.args.playing.now.world) (frames_of c.args.playing.now.frames) c.args.first.now does (length c.args.first.now + c.count.result + 1) c.count.result
    (c.count.ensures.same ∙ count_own c.args.ground.now.app.now c.args.ground.now.lists.now (world_in c.args.playing.now.world) (frames_of c.args.playing.now.frames) c.args.does c.requires.runs) (omega arith))
    c.in-Some.i c.in-Some.left.left.now c.in-Some.ensures.drawn)
    c.go.ensures.made
