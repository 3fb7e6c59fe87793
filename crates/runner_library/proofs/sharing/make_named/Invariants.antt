use Rattle.runner_heap.specs.Objects.{heap_of}
use Rattle.runner_library.proofs.Made.{AreMade}
use Rattle.runner_library.proofs.sharing.make_named.Given as goal
use Rattle.runner_state.specs.Shown.{held_at}

abbrev pub invariant-loop-store : goal.invariant-loop-store
invariant-loop-store l = AreMade l.app l.lists l.stores (heap_of l.initial.heap) (held_at l.initial.statics) (heap_of l.heap, held_at l.statics) l.store-index
