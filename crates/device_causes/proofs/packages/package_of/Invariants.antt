use Rattle.device_causes.proofs.Slashes.{NoneFrom}
use Rattle.device_causes.proofs.packages.package_of.Given as goal

abbrev pub invariant-loop-end : goal.invariant-loop-end
invariant-loop-end l = NoneFrom l.class l.end

abbrev pub decreases-loop-end : goal.decreases-loop-end
decreases-loop-end l = l.end
