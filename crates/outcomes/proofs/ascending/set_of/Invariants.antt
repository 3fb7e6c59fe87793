use Rattle.std.proofs.Common.{◌≡◌}
use Rattle.outcomes.specs.Ascending.{ascending}
use Rattle.outcomes.proofs.ascending.set_of.Given as goal

abbrev pub invariant-loop-item : goal.invariant-loop-item
invariant-loop-item g l = l.set.keys ≡ ascending g.K.Ord.cmp l.yielded
