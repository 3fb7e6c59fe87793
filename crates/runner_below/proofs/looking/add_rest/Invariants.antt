use Rattle.std.proofs.Common.{◌≡◌, ◌++◌, map, take}
use Rattle.played_growth.specs.Growth.{classes_of}
use Rattle.runner_below.specs.Below.{below_among}
use Rattle.runner_below.proofs.looking.add_rest.Given as goal
use Rattle.runner_heap.specs.Objects.{heap_of}

abbrev pub invariant-loop-i : goal.invariant-loop-i
invariant-loop-i l = l.places.items ≡ below_among l.index.0 l.index.1 (classes_of (heap_of l.heap) ++ map (λ c. c.now) l.fresh) (take l.i l.handed) l.kind
