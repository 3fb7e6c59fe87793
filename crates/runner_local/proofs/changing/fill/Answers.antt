use Rattle.std.proofs.Common.{[], ◌∷◌, ◌++◌, ap, ◌∙◌}
use Rattle.app_machine.specs.State as state
use Rattle.runner_heap.specs.Objects.{heap_of}
use Rattle.runner_heap.specs.Shown.{object_of}
use Rattle.runner_local.proofs.Acting.{filled}
use Rattle.runner_local.proofs.changing.fill.Goals as goal
use Rattle.runner_state.specs.Shown.{register_in}
use Rattle.runner_world.specs.World.{world_in}

pub returns-clause-world : goal.returns-clause-world
returns-clause-world c =
    ap {B = state.World} (λ h. record (world_in c.args.world.now) { heap = h })
    (c.in_ok-place.ensures.ok
    ∙ ap (λ o. heap_of c.args.world.now.heap ++ o ∷ [])
    (filled (register_in c.args.registers.now) c.args.class.now c.in_ok-elements.elements.items c.args.from.now (object_of c.new.result) c.in_ok-elements.ensures c.new.ensures.class c.new.ensures.entries))
