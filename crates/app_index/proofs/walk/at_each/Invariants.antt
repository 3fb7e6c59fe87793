use Rattle.app_index.specs.Walk.{found}
use Rattle.app_index.proofs.First.{NothingBefore}
use Rattle.app_index.proofs.walk.at_each.Given as goal

abbrev pub invariant-loop-class : goal.invariant-loop-class
invariant-loop-class l = NothingBefore (found l.index l.wanted) l.classes l.class-index
