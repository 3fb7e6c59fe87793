use Rattle.std.proofs.Common.{◌≡◌, false, take}
use Rattle.register_readers.specs.Results.{any_late}
use Rattle.register_readers.proofs.results.any_late.Given as goal

abbrev pub invariant-loop-step : goal.invariant-loop-step
invariant-loop-step l = any_late l.app l.method (take l.step-index l.steps) ≡ false
