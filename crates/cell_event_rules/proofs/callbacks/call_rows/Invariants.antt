use Rattle.std.proofs.Common.{◌≡◌, fold}
use Rattle.rule_ground.specs.Below.{for_below}
use Rattle.cell_event_rules.specs.CellEventGiven.{callback_gives}
use Rattle.cell_event_rules.proofs.callbacks.call_rows.Given as goal

abbrev pub invariant-loop-row : goal.invariant-loop-row
invariant-loop-row g l = l.out ≡ fold g.S.Sink.then l.fn.out (for_below (callback_gives l.by.index.now.0 l.by.readers.now l.by.index.now.1 l.receiver l.class) l.row)
