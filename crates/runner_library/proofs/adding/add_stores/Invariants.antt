use Rattle.std.proofs.Common.{map}
use Rattle.runner_heap.specs.Objects.{heap_of}
use Rattle.runner_library.proofs.Added.{AreAdded, store_adds}
use Rattle.runner_library.proofs.adding.add_stores.Given as goal
use Rattle.runner_state.specs.Shown.{held_at, value_of}

abbrev pub invariant-loop-store : goal.invariant-loop-store
invariant-loop-store l = AreAdded (store_adds l.app (map value_of l.values) (held_at l.statics)) l.stores (heap_of l.initial.heap) (heap_of l.heap) l.store-index
