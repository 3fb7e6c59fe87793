use Rattle.std.proofs.Common.{◌≡◌, fold, length}
use Rattle.app_machine.specs.Lookups.{initialisers}
use Rattle.app_model.specs.Initialisers.{initialisers_left}
use Rattle.call_targets.specs.EnterGiven.{initialises as initialises_all}
use Rattle.call_targets.proofs.names.initialise.Given as goal

-- what is left to come gives what is still wanted
abbrev pub invariant-loop-body : goal.invariant-loop-body
invariant-loop-body g l = fold g.S.Sink.then l.out (initialises_all l.app l.node (initialisers_left l.app l.walk)) ≡ fold g.S.Sink.then l.fn.out (initialises_all l.app l.node (initialisers l.app l.act))

abbrev pub decreases-loop-body : goal.decreases-loop-body
decreases-loop-body g l = length (initialisers_left l.app l.walk)
