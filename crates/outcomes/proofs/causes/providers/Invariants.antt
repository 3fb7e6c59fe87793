use Rattle.std.proofs.Common.{◌≡◌, map}
use Rattle.outcomes.specs.declared.outcome.Cause.TheVariants.{Provider}
use Rattle.outcomes.proofs.causes.providers.Given as goal

abbrev pub invariant-loop-class : goal.invariant-loop-class
invariant-loop-class l = l.causes.items ≡ map Provider l.yielded
