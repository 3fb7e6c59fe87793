use Rattle.std.proofs.Common.{◌≡◌, map}
use Rattle.outcomes.specs.declared.outcome.Cause.TheVariants.{LayoutClass}
use Rattle.outcomes.proofs.causes.layout_classes.Given as goal

abbrev pub invariant-loop-class : goal.invariant-loop-class
invariant-loop-class l = l.causes.items ≡ map LayoutClass l.yielded
