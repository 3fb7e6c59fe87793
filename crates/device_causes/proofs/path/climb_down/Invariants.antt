use Rattle.std.proofs.Common.{length}
use Rattle.device_causes.specs.Path.{known_in}
use Rattle.device_causes.proofs.Standing.{Climbs}
use Rattle.device_causes.proofs.path.climb_down.Given as goal

abbrev pub invariant-loop-class : goal.invariant-loop-class
invariant-loop-class l = Climbs l.app l.access.entries l.name l.way.items l.path.steps.items (known_in l.path.known)

abbrev pub decreases-loop-class : goal.decreases-loop-class
decreases-loop-class l = length l.way.items
