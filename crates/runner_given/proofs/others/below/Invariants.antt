use Rattle.played_growth.specs.Growth.{classes_of}
use Rattle.runner_given.proofs.Had.{AreFound}
use Rattle.runner_given.proofs.others.below.Given as goal
use Rattle.runner_heap.specs.Objects.{heap_of}

abbrev pub invariant-loop-place : goal.invariant-loop-place
invariant-loop-place l = AreFound l.index.0 l.index.1 (classes_of (heap_of l.heap)) l.kind l.places l.place-index l.found.items
