use Rattle.std.proofs.Common.{◌≡◌, map}
use Rattle.outcomes.specs.declared.outcome.Cause.TheVariants.{InterfaceCode}
use Rattle.device_causes.specs.DeviceCauses.{method_called}
use Rattle.device_causes.proofs.causes.interface_causes.Given as goal

abbrev pub invariant-loop-method : goal.invariant-loop-method
invariant-loop-method l = l.causes.items ≡ map (λ method. InterfaceCode (method_called method)) l.yielded
