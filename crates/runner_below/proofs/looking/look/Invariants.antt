use Rattle.played_growth.specs.Growth.{classes_of}
use Rattle.runner_below.specs.Below.{AreOfFirst}
use Rattle.runner_below.proofs.looking.look.Given as goal
use Rattle.runner_heap.specs.Objects.{heap_of}

abbrev pub invariant-loop-i : goal.invariant-loop-i
invariant-loop-i l = AreOfFirst l.index.0 l.index.1 (classes_of (heap_of l.heap)) l.handed l.kind l.i l.places.items
