use Rattle.std.proofs.Common.{map}
use Rattle.runner_heap.specs.Objects.{heap_of}
use Rattle.runner_library.proofs.Labelled.{HasCome}
use Rattle.runner_library.proofs.arriving.arrive_at_each.Given as goal
use Rattle.runner_state.specs.Shown.{value_of}

abbrev pub invariant-loop-position : goal.invariant-loop-position
invariant-loop-position l = HasCome (heap_of l.heap) (map value_of l.values) l.sink l.positions l.initial.arrivals.items l.arrivals.items l.position-index
