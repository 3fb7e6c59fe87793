use Rattle.std.proofs.Common.{Option, refl, sym, ap, ◌∙◌}
use Rattle.std.specs.Prelude.{option_map}
use Rattle.runner_begin.specs.declared.drawing.Drawn.{Drawn}
use Rattle.runner_begin.specs.Events.{changed_by}
use Rattle.runner_begin.specs.Parameters.{drawn_behind}
use Rattle.runner_begin.proofs.Answered.{is_received, not_received}
use Rattle.runner_begin.proofs.beginning.receive.Goals as goal
use Rattle.runner_heap.specs.Objects.{heap_of}
use Rattle.runner_state.specs.declared.script.Script.{Script}
use Rattle.runner_steps.specs.State.{playing_in}
use Rattle.runner_world.specs.World.{world_in}

pub returns-in-None-clause-made : goal.returns-in-None-clause-made
returns-in-None-clause-made c = (
  not_received c.args.ground.now.app.now c.args.ground.now.lists.now (world_in c.args.playing.now.world) (changed_by (world_in c.args.playing.now.world) c.args.received.change) c.args.received.body c.args.received.place c.args.received.sources.now c.args.script.left.now
      (sym (ap (λ (o : Option (Drawn × Script)). option_map (drawn_behind (heap_of c.args.playing.now.world.heap)) o) c.in-None.is) ∙ c.in_ok-drawn.ensures.drawn),
  refl,
)

pub returns-in_ok-carry_out-in-Some-clause-made : goal.returns-in_ok-carry_out-in-Some-clause-made
returns-in_ok-carry_out-in-Some-clause-made c =
    is_received c.args.ground.now.app.now c.args.ground.now.lists.now (world_in c.args.playing.now.world) (changed_by (world_in c.args.playing.now.world) c.args.received.change) c.args.received.body c.args.received.place c.args.received.sources.now c.args.script.left.now
    _ (playing_in c.carry_out.new.playing) c.in-Some.left.left.now
    (sym (ap (λ (o : Option (Drawn × Script)). option_map (drawn_behind (heap_of c.args.playing.now.world.heap)) o) c.in-Some.is) ∙ c.in_ok-drawn.ensures.drawn)
    c.in_ok-carry_out-in-Some.ensures
