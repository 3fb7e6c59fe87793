use Rattle.app_index.specs.Walk.{found_above}
use Rattle.app_index.proofs.First.{NothingBefore}
use Rattle.app_index.proofs.walk.above_each.Given as goal

abbrev pub invariant-loop-class : goal.invariant-loop-class
invariant-loop-class l = NothingBefore (found_above l.index l.wanted) l.classes l.class-index
