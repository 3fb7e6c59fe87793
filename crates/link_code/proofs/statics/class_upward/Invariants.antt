use Rattle.std.proofs.Common.{length}
use Rattle.vet_base.proofs.Firsts.{SameFirst}
use Rattle.app_machine.specs.Lookups.{up}
use Rattle.app_model.specs.ClassWalks.{classes_left}
use Rattle.link_code.specs.Statics.{own_name}
use Rattle.link_code.proofs.statics.class_upward.Given as goal

abbrev pub invariant-loop-class : goal.invariant-loop-class
invariant-loop-class l = SameFirst (own_name l.fields.entries l.at.1 l.at.2) (up l.app l.at.0) (classes_left l.app l.walk)

abbrev pub decreases-loop-class : goal.decreases-loop-class
decreases-loop-class l = length (classes_left l.app l.walk)
