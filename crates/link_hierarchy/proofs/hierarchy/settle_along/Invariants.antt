use Rattle.link_hierarchy.specs.Settled.{Settled}
use Rattle.link_hierarchy.proofs.hierarchy.settle_along.Given as goal

abbrev pub invariant-loop-name : goal.invariant-loop-name
invariant-loop-name l = Settled l.classes.entries l.outers.entries
