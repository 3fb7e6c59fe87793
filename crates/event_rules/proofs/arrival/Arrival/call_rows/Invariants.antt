use Rattle.std.proofs.Common.{◌≡◌, fold}
use Rattle.rule_ground.specs.Below.{for_below}
use Rattle.event_rules.specs.Calling.{row_gives}
use Rattle.event_rules.proofs.arrival.Arrival.call_rows.Given as goal

abbrev pub invariant-loop-row : goal.invariant-loop-row
invariant-loop-row g l = l.out ≡ fold g.S.Sink.then l.fn.out (for_below (row_gives l.index.0 l.index.1 l.self l.on l.class) l.row)
