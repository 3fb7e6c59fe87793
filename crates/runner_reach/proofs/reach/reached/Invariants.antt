use Rattle.std.proofs.Common.{length}
use Rattle.runner_heap.specs.Objects.{heap_of}
use Rattle.runner_reach.specs.Search.{IsMet, has_met}
use Rattle.runner_reach.proofs.Meeting.{left_to_do}
use Rattle.runner_reach.proofs.Searching.{Searched}
use Rattle.runner_reach.proofs.reach.reached.Given as goal
use Rattle.runner_state.specs.Shown.{labels_of, value_of}

abbrev pub invariant-loop-value : goal.invariant-loop-value
invariant-loop-value l = record {
  searched : Searched (heap_of l.heap) (value_of l.fn.from) (labels_of l.labels) (has_met l.met) l.waiting.items;
  is_met : IsMet (length (heap_of l.heap)) l.met;
}

abbrev pub decreases-loop-value : goal.decreases-loop-value
decreases-loop-value l = left_to_do (length (heap_of l.heap)) l.met l.waiting.items
