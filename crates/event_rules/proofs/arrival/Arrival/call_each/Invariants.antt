use Rattle.std.proofs.Common.{◌≡◌, fold, take, flat_map}
use Rattle.event_rules.specs.Calling.{call_gives}
use Rattle.event_rules.proofs.arrival.Arrival.call_each.Given as goal

abbrev pub invariant-loop-coming : goal.invariant-loop-coming
invariant-loop-coming g l = l.out ≡ fold g.S.Sink.then l.fn.out (flat_map (call_gives l.index.0 l.index.1 l.self l.on) (take l.coming-index l.comings))
