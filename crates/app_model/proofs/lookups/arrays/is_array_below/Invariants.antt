use Rattle.std.proofs.Common.{◌≡◌, length}
use Rattle.app_model.specs.Above.{is_array_below}
use Rattle.app_model.proofs.lookups.arrays.is_array_below.Given as goal

abbrev pub invariant-loop-elements : goal.invariant-loop-elements
invariant-loop-elements l = is_array_below l.app l.lists l.fn.class l.fn.kind ≡ is_array_below l.app l.lists l.class l.kind

abbrev pub decreases-loop-elements : goal.decreases-loop-elements
decreases-loop-elements l = length l.class
