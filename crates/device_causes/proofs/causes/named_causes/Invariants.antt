use Rattle.std.proofs.Common.{◌≡◌, map}
use Rattle.outcomes.specs.declared.outcome.Cause.TheVariants.{NamedClass}
use Rattle.device_causes.proofs.causes.named_causes.Given as goal

abbrev pub invariant-loop-class : goal.invariant-loop-class
invariant-loop-class l = l.causes.items ≡ map NamedClass l.yielded
