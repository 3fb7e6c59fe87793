use Rattle.std.proofs.Common.{◌≡◌, ◌++◌, take}
use Rattle.device_causes.proofs.hidden.add_copies.Given as goal

abbrev pub invariant-loop-method : goal.invariant-loop-method
invariant-loop-method l = l.found.items ≡ l.initial.found.items ++ take l.method-index l.more
