use Rattle.link_hierarchy.proofs.Rounds.{Round}
use Rattle.link_hierarchy.proofs.hierarchy.settle_round.Given as goal

abbrev pub invariant-loop-name : goal.invariant-loop-name
invariant-loop-name l = Round l.classes.entries l.names l.fn.outers.entries l.name-index l.outers.entries l.left.items
