use Rattle.std.proofs.Common.{◌≡◌, fold, length}
use Rattle.app_machine.specs.Lookups.{initialisers}
use Rattle.app_model.specs.Initialisers.{initialisers_left}
use Rattle.call_rules.specs.InitGiven.{bodies_taint}
use Rattle.call_rules.proofs.initialised.from_pointer.Given as goal

-- what is left to come gives what is still wanted
abbrev pub invariant-loop-body : goal.invariant-loop-body
invariant-loop-body g l = fold g.S.Sink.then l.out (bodies_taint (g.F.Facts.hits l.facts) l.pointer.node l.pointer.register l.pointer.site (initialisers_left l.app l.walk)) ≡ fold g.S.Sink.then l.fn.out (bodies_taint (g.F.Facts.hits l.facts) l.pointer.node l.pointer.register l.pointer.site (initialisers l.app l.act))

abbrev pub decreases-loop-body : goal.decreases-loop-body
decreases-loop-body g l = length (initialisers_left l.app l.walk)
