use Rattle.std.proofs.Common.{◌≡◌, ◌∷◌, ◌++◌, [], ◌∙◌, length, List, ℕ, Option, sym, ap, subst, arith}
use Rattle.std.specs.Prelude.{IfOk, IfSome, option_to_list}
use Rattle.app_machine.specs.Heap.{Value, blank}
use Rattle.played_machine.specs.Local as local
use Rattle.runner_calls.specs.Frames.{frames_of}
use Rattle.runner_steps.specs.declared.doing.Doing.{Doing}
use Rattle.runner_steps.specs.Doing.{NamesFew, drawing_of}
use Rattle.runner_steps.specs.State.{Makes, playing_in}
use Rattle.runner_turns.specs.Ways.{way_at}
use Rattle.runner_turns.proofs.Ways.{none_own, some_own}
use Rattle.runner_turns.proofs.choosing.go_on.Goals as goal
use Rattle.runner_world.specs.World.{world_in}

pub own_or_raise-requires-clause-few : goal.own_or_raise-requires-clause-few
own_or_raise-requires-clause-few c = subst (λ (o : Option Doing). IfSome o NamesFew) c.in-Some.is c.requires.few

pub own_or_raise-requires-clause-within : goal.own_or_raise-requires-clause-within
own_or_raise-requires-clause-within c =
    let one : length (option_to_list c.args.does) ≡ 1 = ap (λ (o : Option Doing). length (option_to_list o)) c.in-Some.is in
    omega (arith, c.requires.within, one)

pub returns-in-None-clause-made : goal.returns-in-None-clause-made
returns-in-None-clause-made c =
    let none : length (option_to_list c.args.does) ≡ 0 = ap (λ (o : Option Doing). length (option_to_list o)) c.in-None.is in
    subst (λ (drawn : Option (local.Playing × List ℕ)). IfOk c.raise.result (Makes drawn (playing_in c.args.playing.now) (playing_in c.raise.new.playing)))
    (ap (λ (v : Value). local.raised c.args.ground.now.app.now v (world_in c.args.playing.now.world) (frames_of c.args.playing.now.frames) c.args.script.left.now) c.blank.ensures
    ∙ (none_own c.args.ground.now.app.now c.args.ground.now.lists.now (world_in c.args.playing.now.world) (frames_of c.args.playing.now.frames) c.args.index c.args.script.left.now c.requires.runs (omega (arith, c.requires.within, none))
    ∙ ap (λ (o : Option Doing). way_at (option_to_list (drawing_of c.args.ground.now.app.now c.args.ground.now.lists.now (world_in c.args.playing.now.world) (frames_of c.args.playing.now.frames) o) ++ local.raised c.args.ground.now.app.now blank (world_in c.args.playing.now.world) (frames_of c.args.playing.now.frames) ∷ []) c.args.index c.args.script.left.now) (sym c.in-None.is)))
    c.raise.ensures

pub returns-in-Some-clause-made : goal.returns-in-Some-clause-made
returns-in-Some-clause-made c =
    subst (λ (drawn : Option (local.Playing × List ℕ)). IfOk c.own_or_raise.result (Makes drawn (playing_in c.args.playing.now) (playing_in c.own_or_raise.new.playing)))
    (some_own c.args.ground.now.app.now c.args.ground.now.lists.now (world_in c.args.playing.now.world) (frames_of c.args.playing.now.frames) c.in-Some.does c.args.index c.args.script.left.now c.requires.runs
    ∙ ap (λ (o : Option Doing). way_at (option_to_list (drawing_of c.args.ground.now.app.now c.args.ground.now.lists.now (world_in c.args.playing.now.world) (frames_of c.args.playing.now.frames) o) ++ local.raised c.args.ground.now.app.now blank (world_in c.args.playing.now.world) (frames_of c.args.playing.now.frames) ∷ []) c.args.index c.args.script.left.now) (sym c.in-Some.is))
    c.own_or_raise.ensures.made
