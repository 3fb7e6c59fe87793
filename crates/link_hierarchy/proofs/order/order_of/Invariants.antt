use Rattle.link_hierarchy.specs.Hierarchy.{AreOfClasses}
use Rattle.link_hierarchy.proofs.order.order_of.Given as goal

abbrev pub invariant-loop-name : goal.invariant-loop-name
invariant-loop-name l = AreOfClasses l.classes.entries l.order.items
