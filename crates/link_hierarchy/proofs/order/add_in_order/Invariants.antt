use Rattle.link_hierarchy.specs.Hierarchy.{AreOfClasses}
use Rattle.link_hierarchy.proofs.order.add_in_order.Given as goal

abbrev pub invariant-visits : goal.invariant-visits
invariant-visits l = AreOfClasses l.classes.entries l.order.items
