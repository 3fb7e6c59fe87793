use Rattle.std.proofs.Common.{◌≡◌, fold}
use Rattle.rule_ground.specs.Below.{for_below}
use Rattle.event_rules.specs.EventGiven.{event_gives}
use Rattle.event_rules.proofs.life.live_on.Given as goal

abbrev pub invariant-loop-event : goal.invariant-loop-event
invariant-loop-event g l = l.out ≡ fold g.S.Sink.then l.fn.out (for_below (event_gives l.app l.standing) l.event)
