use Rattle.std.proofs.Common.{◌+◌, ◌*◌}
use Rattle.app_machine.specs.Lookups.{above_within}
use Rattle.app_model.specs.Above.{has}
use Rattle.app_model.proofs.Above.{NoneOfFirst}
use Rattle.app_model.proofs.lookups.above.+upward.Given as goal

abbrev pub decreases-any_of : goal.decreases-any_of
decreases-any_of l = 2 * l.steps + 1

abbrev pub decreases-any_within : goal.decreases-any_within
decreases-any_within l = 2 * l.steps

abbrev pub invariant-any_of-loop-class : goal.invariant-any_of-loop-class
invariant-any_of-loop-class l = NoneOfFirst (above_within l.steps l.app.classes) (has l.quality) l.classes l.class-index
