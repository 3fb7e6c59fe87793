use Rattle.std.proofs.Common.{List, ℕ, Option, refl, sym, ap, ◌∙◌, subst}
use Rattle.std.specs.Prelude.{IfOk, option_map}
use Rattle.played_machine.specs.Local as local
use Rattle.runner_calls.specs.Frames.{frames_of}
use Rattle.runner_heap.specs.Shown.{value_behind}
use Rattle.runner_state.specs.declared.script.Script.{Script}
use Rattle.runner_state.specs.declared.value.Held.{Held}
use Rattle.runner_state.specs.Shown.{value_of}
use Rattle.runner_steps.specs.State.{Makes, playing_in}
use Rattle.runner_turns.proofs.Called.{is_called, not_called}
use Rattle.runner_turns.proofs.calling.call_library.Goals as goal
use Rattle.runner_world.specs.World.{world_in}

pub returns-in-None-clause-made : goal.returns-in-None-clause-made
returns-in-None-clause-made c = (not_called c.args.ground.now.app.now c.args.ground.now.lists.now (world_in c.args.playing.now.world) c.args.of c.args.next.now c.args.script.left.now (frames_of c.args.playing.now.frames) (sym (ap (λ (o : Option (Held × Script)). option_map value_behind o) c.in-None.is) ∙ c.in_ok-given.ensures.given), refl)

pub returns-in-Some-clause-made : goal.returns-in-Some-clause-made
returns-in-Some-clause-made c =
    subst (λ (drawn : Option (local.Playing × List ℕ)). IfOk c.call_given.result (Makes drawn (playing_in c.args.playing.now) (playing_in c.call_given.new.playing)))
    (is_called c.args.ground.now.app.now c.args.ground.now.lists.now (world_in c.args.playing.now.world) c.args.of c.args.next.now c.args.script.left.now
    (frames_of c.args.playing.now.frames) (value_of c.in-Some.read) c.in-Some.left.left.now (ap (λ (o : Option (Held × Script)). option_map value_behind o) (sym c.in-Some.is) ∙ c.in_ok-given.ensures.given))
    c.call_given.ensures
