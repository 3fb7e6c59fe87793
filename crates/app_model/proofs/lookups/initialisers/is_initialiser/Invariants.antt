use Rattle.std.proofs.Common.{length}
use Rattle.app_machine.specs.Lookups.{initialisers}
use Rattle.app_model.specs.Initialisers.{initialisers_left}
use Rattle.app_model.proofs.Initialising.{SameLeft}
use Rattle.app_model.proofs.lookups.initialisers.is_initialiser.Given as goal

abbrev pub invariant-loop-next : goal.invariant-loop-next
invariant-loop-next l = SameLeft l.app l.body (initialisers l.app l.act) (initialisers_left l.app l.walk)

abbrev pub decreases-loop-next : goal.decreases-loop-next
decreases-loop-next l = length (initialisers_left l.app l.walk)
