use Rattle.std.proofs.Common.{map, reverse}
use Rattle.played_growth.specs.Growth.{classes_of}
use Rattle.runner_begin.specs.Parameters.{labels_by, planned_in}
use Rattle.runner_begin.proofs.Values.{DrawnFirst}
use Rattle.runner_begin.proofs.drawing.parameters.Given as goal
use Rattle.runner_below.specs.Kept.{AreBelow}
use Rattle.runner_heap.specs.Objects.{heap_of}
use Rattle.runner_state.specs.Shown.{value_of}

abbrev pub invariant-loop-i : goal.invariant-loop-i
invariant-loop-i l = record {
  fits : AreBelow l.index.0 l.index.1 (classes_of (heap_of l.world.heap)) l.world.handed l.belows;
  drawn : DrawnFirst l.index.0 l.index.1 (reverse l.world.handed) (labels_by l.sources) l.kinds (planned_in (heap_of l.world.heap) l.first) l.fn.script.left.now (map value_of l.values.items) (planned_in (heap_of l.world.heap) l.fresh.items) l.left.left.now l.i;
}
