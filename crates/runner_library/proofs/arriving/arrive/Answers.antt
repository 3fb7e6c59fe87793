use Rattle.std.proofs.Common.{map, ap, ◌++◌, ◌∙◌}
use Rattle.runner_heap.specs.Objects.{heap_of}
use Rattle.runner_library.proofs.arriving.arrive.Goals as goal
use Rattle.runner_library.specs.Over.{arrivals_at_each}
use Rattle.runner_state.specs.Shown.{value_of}
use Rattle.runner_world.specs.Shown.{arrival_of}

pub returns : goal.returns
returns c =
    c.in_ok-arrive_at_each.ensures
    ∙ ap (λ ps. map arrival_of c.args.arrivals.now.items ++ arrivals_at_each (heap_of c.args.heap.now) (map value_of c.args.values.now) c.args.sink ps) (c.as_slice.ensures.value ∙ c.in_ok-ascending.ensures)
