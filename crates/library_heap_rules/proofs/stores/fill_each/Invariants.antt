use Rattle.std.proofs.Common.{◌≡◌, fold, map, take}
use Rattle.library_ground.specs.CallRow.{shown_call}
use Rattle.library_heap_rules.specs.HeapGiven.{static_filled}
use Rattle.library_heap_rules.proofs.stores.fill_each.Given as goal

abbrev pub invariant-loop-store : goal.invariant-loop-store
invariant-loop-store g l = l.out ≡ fold g.S.Sink.then l.fn.out (map (static_filled l.app (shown_call l.call)) (take l.store-index l.stores))
