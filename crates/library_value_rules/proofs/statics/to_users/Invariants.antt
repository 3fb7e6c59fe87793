use Rattle.std.proofs.Common.{◌≡◌, fold}
use Rattle.rule_ground.specs.Below.{for_below}
use Rattle.library_value_rules.specs.StaticGiven.{static_row}
use Rattle.library_value_rules.proofs.statics.to_users.Given as goal

abbrev pub invariant-loop-row : goal.invariant-loop-row
invariant-loop-row g l = l.out ≡ fold g.S.Sink.then l.fn.out (for_below (λ i. static_row l.from.app.now l.from.lists.now (g.F.Facts.hits l.facts) l.from.number l.from.path l.from.label i) l.row)
