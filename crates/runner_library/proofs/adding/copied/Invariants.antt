use Rattle.std.proofs.Common.{map}
use Rattle.runner_heap.specs.Objects.{heap_of}
use Rattle.runner_library.proofs.Added.{AreListed, copy_lists}
use Rattle.runner_library.proofs.adding.copied.Given as goal
use Rattle.runner_library.specs.Over.{added_of}
use Rattle.runner_state.specs.Shown.{value_of}

abbrev pub invariant-loop-copy : goal.invariant-loop-copy
invariant-loop-copy l = AreListed added_of (copy_lists (heap_of l.heap) (map value_of l.values)) l.copies l.all.items l.copy-index
