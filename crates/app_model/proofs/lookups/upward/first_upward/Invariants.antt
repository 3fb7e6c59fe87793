use Rattle.std.proofs.Common.{length}
use Rattle.vet_base.proofs.Firsts.{SameFirst}
use Rattle.app_machine.specs.Lookups.{up}
use Rattle.app_model.specs.ClassWalks.{classes_left}
use Rattle.app_model.specs.Upward.{defined}
use Rattle.app_model.proofs.lookups.upward.first_upward.Given as goal

abbrev pub invariant-loop-class : goal.invariant-loop-class
invariant-loop-class l = SameFirst (defined l.app l.member) (up l.app l.class) (classes_left l.app l.walk)

abbrev pub decreases-loop-class : goal.decreases-loop-class
decreases-loop-class l = length (classes_left l.app l.walk)
