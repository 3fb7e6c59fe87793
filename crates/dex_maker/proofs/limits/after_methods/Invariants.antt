use Rattle.std.proofs.Common.{◌≡◌, ◌+◌, take}
use Rattle.std.specs.List.{sum_by}
use Rattle.dex_maker.specs.Classes.{method_width}
use Rattle.dex_maker.proofs.limits.after_methods.Given as goal

abbrev pub invariant-loop-method : goal.invariant-loop-method
invariant-loop-method l = l.left + sum_by method_width (take l.method-index l.methods) ≡ l.budget
