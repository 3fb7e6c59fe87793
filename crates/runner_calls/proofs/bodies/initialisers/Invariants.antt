use Rattle.std.proofs.Common.{◌≡◌, ◌++◌, length}
use Rattle.app_machine.specs.Lookups.{initialisers}
use Rattle.app_model.specs.Initialisers.{initialisers_left}
use Rattle.runner_calls.proofs.Found.{numbers}
use Rattle.runner_calls.proofs.bodies.initialisers.Given as goal

abbrev pub invariant-loop-body : goal.invariant-loop-body
invariant-loop-body l = l.found.items ++ numbers l.app (initialisers_left l.app l.walk) ≡ numbers l.app (initialisers l.app l.act)

abbrev pub decreases-loop-body : goal.decreases-loop-body
decreases-loop-body l = length (initialisers_left l.app l.walk)
