use Rattle.runner_begin.proofs.Made.{MadeFirst}
use Rattle.runner_begin.proofs.making.make_all.Given as goal
use Rattle.runner_heap.specs.Objects.{heap_of}

abbrev pub invariant-loop-one : goal.invariant-loop-one
invariant-loop-one l = MadeFirst (heap_of l.initial.heap) l.fresh (heap_of l.heap) l.one-index
