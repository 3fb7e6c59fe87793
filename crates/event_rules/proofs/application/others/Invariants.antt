use Rattle.std.proofs.Common.{◌≡◌, fold}
use Rattle.rule_ground.specs.Below.{for_below}
use Rattle.event_rules.specs.EventGiven.{other_lives}
use Rattle.event_rules.proofs.application.others.Given as goal

abbrev pub invariant-loop-component : goal.invariant-loop-component
invariant-loop-component g l = l.out ≡ fold g.S.Sink.then l.fn.out (for_below (other_lives l.application) l.component)
