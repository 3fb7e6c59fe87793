use Rattle.std.proofs.Common.{get_or, List, ℕ, Option, subst, arith}
use Rattle.std.specs.Prelude.{IfOk}
use Rattle.std.proofs.lemmas.Option.{slice_get-get_or}
use Rattle.played_machine.specs.Local as local
use Rattle.runner_calls.specs.Frames.{frames_of}
use Rattle.runner_steps.specs.Doing.{drawing_of}
use Rattle.runner_steps.specs.State.{Makes, playing_in}
use Rattle.runner_turns.proofs.Ways.{of_first, of_others}
use Rattle.runner_turns.proofs.choosing.go.Goals as goal
use Rattle.runner_world.specs.World.{world_in}

pub go_on-requires-clause-within : goal.go_on-requires-clause-within
go_on-requires-clause-within c = omega (arith, c.requires.within)

pub returns-then-index-first-clause-made : goal.returns-then-index-first-clause-made
returns-then-index-first-clause-made c =
    subst (λ (drawn : Option (local.Playing × List ℕ)). IfOk c.begin.result (Makes drawn (playing_in c.args.playing.now) (playing_in c.begin.new.playing)))
    (of_first c.args.ground.now.app.now (world_in c.args.playing.now.world) (frames_of c.args.playing.now.frames) c.args.first.now
    (drawing_of c.args.ground.now.app.now c.args.ground.now.lists.now (world_in c.args.playing.now.world) (frames_of c.args.playing.now.frames) c.args.does)
    c.args.index (get_or c.args.first.now c.args.index 0) c.args.script.left.now (slice_get-get_or c.args.first.now c.args.index 0 (omega arith)))
    c.begin.ensures

pub returns-else-index-first-clause-made : goal.returns-else-index-first-clause-made
returns-else-index-first-clause-made c =
    subst (λ (drawn : Option (local.Playing × List ℕ)). IfOk c.go_on.result (Makes drawn (playing_in c.args.playing.now) (playing_in c.go_on.new.playing)))
    (of_others c.args.ground.now.app.now (world_in c.args.playing.now.world) (frames_of c.args.playing.now.frames) c.args.first.now
    (drawing_of c.args.ground.now.app.now c.args.ground.now.lists.now (world_in c.args.playing.now.world) (frames_of c.args.playing.now.frames) c.args.does)
    c.args.index c.args.script.left.now (omega arith))
    c.go_on.ensures.made
