use Rattle.std.proofs.Common.{length}
use Rattle.device_causes.specs.Path.{IsPath}
use Rattle.device_causes.proofs.path.leave_all.Given as goal

abbrev pub invariant-steps : goal.invariant-steps
invariant-steps l = IsPath l.app l.access.entries l.path

abbrev pub decreases-steps : goal.decreases-steps
decreases-steps l = length l.path.steps.items
