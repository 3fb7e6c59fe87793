use Rattle.std.proofs.Common.{◌≡◌, map}
use Rattle.outcomes.specs.declared.outcome.Cause.TheVariants.{Hidden}
use Rattle.device_causes.specs.DeviceCauses.{method_called}
use Rattle.device_causes.proofs.causes.hidden_causes.Given as goal

abbrev pub invariant-loop-method : goal.invariant-loop-method
invariant-loop-method l = l.causes.items ≡ map (λ method. Hidden (method_called method)) l.yielded
