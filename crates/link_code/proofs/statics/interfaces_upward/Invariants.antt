use Rattle.std.proofs.Common.{length}
use Rattle.app_machine.specs.Lookups.{up}
use Rattle.app_model.specs.ClassWalks.{classes_left}
use Rattle.link_code.proofs.Gathering.{Gathers}
use Rattle.link_code.proofs.statics.interfaces_upward.Given as goal

abbrev pub invariant-loop-class : goal.invariant-loop-class
invariant-loop-class l = Gathers (up l.app l.class) (classes_left l.app l.walk) l.queue.items

abbrev pub decreases-loop-class : goal.decreases-loop-class
decreases-loop-class l = length (classes_left l.app l.walk)
