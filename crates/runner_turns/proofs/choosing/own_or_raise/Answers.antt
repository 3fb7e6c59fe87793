use Rattle.std.proofs.Common.{◌∙◌, List, ℕ, Option, ap, subst, arith}
use Rattle.std.specs.Prelude.{IfOk}
use Rattle.app_machine.specs.Heap.{Value}
use Rattle.played_machine.specs.Local as local
use Rattle.runner_calls.specs.Frames.{frames_of}
use Rattle.runner_steps.specs.State.{Makes, playing_in}
use Rattle.runner_turns.proofs.Ways.{is_own, is_raise}
use Rattle.runner_turns.proofs.choosing.own_or_raise.Goals as goal
use Rattle.runner_world.specs.World.{world_in}

pub returns-then-index-eq0-clause-made : goal.returns-then-index-eq0-clause-made
returns-then-index-eq0-clause-made c =
    subst (λ (drawn : Option (local.Playing × List ℕ)). IfOk c.carry_out.result (Makes drawn (playing_in c.args.playing.now) (playing_in c.carry_out.new.playing)))
    (is_own c.args.ground.now.app.now c.args.ground.now.lists.now (world_in c.args.playing.now.world) (frames_of c.args.playing.now.frames) c.args.does c.args.index c.args.script.left.now (omega arith))
    c.carry_out.ensures.made

pub returns-else-index-eq0-clause-made : goal.returns-else-index-eq0-clause-made
returns-else-index-eq0-clause-made c =
    subst (λ (drawn : Option (local.Playing × List ℕ)). IfOk c.raise.result (Makes drawn (playing_in c.args.playing.now) (playing_in c.raise.new.playing)))
    (ap (λ (v : Value). local.raised c.args.ground.now.app.now v (world_in c.args.playing.now.world) (frames_of c.args.playing.now.frames) c.args.script.left.now) c.blank.ensures
    ∙ is_raise c.args.ground.now.app.now c.args.ground.now.lists.now (world_in c.args.playing.now.world) (frames_of c.args.playing.now.frames) c.args.does c.args.index c.args.script.left.now (omega (arith, c.requires.within)))
    c.raise.ensures
