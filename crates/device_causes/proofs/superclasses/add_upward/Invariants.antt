use Rattle.std.proofs.Common.{◌++◌, length, map}
use Rattle.app_machine.specs.Lookups.{up}
use Rattle.app_model.specs.ClassWalks.{classes_left}
use Rattle.device_causes.proofs.Ways.{NamesLeft}
use Rattle.device_causes.proofs.superclasses.add_upward.Given as goal

abbrev pub invariant-loop-class : goal.invariant-loop-class
invariant-loop-class l = NamesLeft l.names.items (classes_left l.app l.walk) (l.initial.names.items ++ map (λ k. k.name) (up l.app l.fn.class))

abbrev pub decreases-loop-class : goal.decreases-loop-class
decreases-loop-class l = length (classes_left l.app l.walk)
