use Rattle.std.proofs.Common.{◌≡◌, fold}
use Rattle.rule_ground.specs.Below.{for_below}
use Rattle.cell_event_rules.specs.CellEventGiven.{click_gives}
use Rattle.cell_event_rules.proofs.clicks.by_clicks.Given as goal

abbrev pub invariant-loop-number : goal.invariant-loop-number
invariant-loop-number g l = l.out ≡ fold g.S.Sink.then l.fn.out (for_below (click_gives l.by.index.now.0 l.by.readers.now l.component l.state) l.number)
