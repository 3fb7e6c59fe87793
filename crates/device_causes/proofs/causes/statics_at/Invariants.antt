use Rattle.std.proofs.Common.{◌≡◌, map, take}
use Rattle.outcomes.specs.declared.outcome.Cause.TheVariants.{LibraryStatic}
use Rattle.outcomes.specs.Spots.{at_spot}
use Rattle.device_causes.proofs.causes.statics_at.Given as goal

abbrev pub invariant-loop-spot : goal.invariant-loop-spot
invariant-loop-spot l = l.causes.items ≡ map (λ spot. LibraryStatic (at_spot l.app spot)) (take l.spot-index l.spots)
