use Rattle.std.proofs.Common.{map}
use Rattle.app_parts.specs.Views.{shown_summary}
use Rattle.runner_heap.specs.Objects.{heap_of}
use Rattle.runner_library.proofs.Added.{AreAdded, put_adds}
use Rattle.runner_library.proofs.adding.add_puts.Given as goal
use Rattle.runner_state.specs.Shown.{value_of}

abbrev pub invariant-loop-k : goal.invariant-loop-k
invariant-loop-k l = AreAdded (put_adds (map value_of l.values)) (shown_summary l.view l.at l.is_static).puts (heap_of l.initial.heap) (heap_of l.heap) l.k
