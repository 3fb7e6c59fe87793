use Rattle.std.proofs.Common.{◌≡◌, map}
use Rattle.outcomes.specs.declared.outcome.Cause.TheVariants.{Click}
use Rattle.device_causes.specs.DeviceCauses.{method_called}
use Rattle.device_causes.proofs.causes.click_causes.Given as goal

abbrev pub invariant-loop-method : goal.invariant-loop-method
invariant-loop-method l = l.causes.items ≡ map (λ method. Click (method_called method)) l.yielded
