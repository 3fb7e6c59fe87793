use Rattle.std.proofs.Common.{◌≡◌, fold, take, flat_map}
use Rattle.cell_event_rules.specs.CellEventGiven.{coming_gives}
use Rattle.cell_event_rules.proofs.callbacks.call_each.Given as goal

abbrev pub invariant-loop-coming : goal.invariant-loop-coming
invariant-loop-coming g l = l.out ≡ fold g.S.Sink.then l.fn.out (flat_map (coming_gives l.by.index.now.0 l.by.readers.now l.by.index.now.1 l.receiver) (take l.coming-index l.comings))
