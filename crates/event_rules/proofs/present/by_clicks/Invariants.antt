use Rattle.std.proofs.Common.{◌≡◌, fold}
use Rattle.rule_ground.specs.Below.{for_below}
use Rattle.event_rules.specs.EventGiven.{click_gives}
use Rattle.event_rules.proofs.present.by_clicks.Given as goal

abbrev pub invariant-loop-number : goal.invariant-loop-number
invariant-loop-number g l = l.out ≡ fold g.S.Sink.then l.fn.out (for_below (click_gives l.index.0 l.standing) l.number)
