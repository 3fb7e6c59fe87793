use Rattle.std.proofs.Common.{◌≡◌, fold, take}
use Rattle.library_heap_rules.specs.HeapGiven.{pairs_from}
use Rattle.cell_library_rules.proofs.pairs.for_each_from.Given as goal

abbrev pub invariant-loop-pair : goal.invariant-loop-pair
invariant-loop-pair g l = l.out ≡ fold g.S.Sink.then l.fn.out (pairs_from l.position (g.J.OfSecond.gives l.with) (take l.pair-index l.pairs))
