use Rattle.std.proofs.Common.{length}
use Rattle.app_model.specs.ClassWalks.{classes_left}
use Rattle.app_model.proofs.Initialising.{Walked}
use Rattle.app_model.proofs.lookups.initialisers.next_initialiser.Given as goal

abbrev pub invariant-loop-class : goal.invariant-loop-class
invariant-loop-class l = Walked l.app l.walk (classes_left l.app l.classes)

abbrev pub decreases-loop-class : goal.decreases-loop-class
decreases-loop-class l = length (classes_left l.app l.classes)
