use Rattle.std.proofs.Common.{◌≡◌, map}
use Rattle.outcomes.specs.declared.outcome.Cause.TheVariants.{UnlistedClass}
use Rattle.device_causes.proofs.causes.unlisted_causes.Given as goal

abbrev pub invariant-loop-class : goal.invariant-loop-class
invariant-loop-class l = l.causes.items ≡ map UnlistedClass l.yielded
