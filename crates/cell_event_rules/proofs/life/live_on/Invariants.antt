use Rattle.std.proofs.Common.{◌≡◌, fold}
use Rattle.rule_ground.specs.Below.{for_below}
use Rattle.cell_event_rules.specs.CellEventGiven.{event_gives}
use Rattle.cell_event_rules.proofs.life.live_on.Given as goal

abbrev pub invariant-loop-event : goal.invariant-loop-event
invariant-loop-event g l = l.out ≡ fold g.S.Sink.then l.fn.out (for_below (event_gives l.by.index.now.0 l.by.readers.now l.component l.state) l.event)
