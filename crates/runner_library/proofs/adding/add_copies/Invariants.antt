use Rattle.std.proofs.Common.{◌≡◌, map, take}
use Rattle.app_machine.specs.Heap.{add_all}
use Rattle.runner_heap.specs.Objects.{heap_of}
use Rattle.runner_library.proofs.adding.add_copies.Given as goal
use Rattle.runner_library.specs.Over.{added_of}

abbrev pub invariant-loop-added : goal.invariant-loop-added
invariant-loop-added l = heap_of l.heap ≡ add_all (heap_of l.initial.heap) (map added_of (take l.added-index l.all))
