use Rattle.std.proofs.Common.{◌∷◌, List, map, ap, ◌∙◌}
use Rattle.runner_begin.specs.Begun.{frames_at, receiver_by}
use Rattle.runner_begin.specs.Events.{lives_by}
use Rattle.runner_begin.specs.Parameters.{planned_in}
use Rattle.runner_begin.proofs.Carried.{carried}
use Rattle.runner_begin.proofs.beginning.carry_out.Goals as goal
use Rattle.runner_calls.specs.Frames.{frames_of}
use Rattle.runner_heap.specs.Objects.{heap_of}
use Rattle.runner_state.specs.declared.value.Held.{Held}
use Rattle.runner_state.specs.Shown.{value_of}
use Rattle.runner_world.specs.Shown.{life_at}
use Rattle.runner_world.specs.World.{world_in}

pub returns : goal.returns
returns c =
    carried (world_in c.args.playing.now.world) (heap_of c.make_all.new.heap) (planned_in (heap_of c.args.playing.now.world.heap) c.args.drawn.now.fresh.items) (life_at c.set_life.new.lives) (lives_by (life_at c.args.playing.now.world.components) c.args.received.change)
    (frames_of c.enter.new.frames) (frames_at c.args.app.now c.args.received.body (receiver_by c.args.received.place c.args.received.sources.now ∷ map value_of c.args.drawn.now.values.items))
    (c.in_ok-make_all.ensures ∙ ap (planned_in (heap_of c.args.playing.now.world.heap)) c.as_slice-fresh.ensures.value)
    c.in_ok-set_life.ensures
    (c.in_ok-enter.ensures ∙ ap (λ (hs : List Held). frames_at c.args.app.now c.args.received.body (receiver_by c.args.received.place c.args.received.sources.now ∷ map value_of hs)) c.as_slice-values.ensures.value)
