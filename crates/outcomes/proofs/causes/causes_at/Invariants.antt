use Rattle.std.proofs.Common.{◌≡◌, map, take}
use Rattle.outcomes.specs.Causes.{named_cause}
use Rattle.outcomes.specs.Spots.{at_spot}
use Rattle.outcomes.proofs.causes.causes_at.Given as goal

abbrev pub invariant-loop-spot : goal.invariant-loop-spot
invariant-loop-spot l = l.causes.items ≡ map (λ spot. named_cause l.cause (at_spot l.app spot)) (take l.spot-index l.spots)
