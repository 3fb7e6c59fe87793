use Rattle.std.proofs.Common.{subst}
use Rattle.link_hierarchy.specs.Circle.{LeastAmong}
use Rattle.link_hierarchy.proofs.Stuck.{least_of_all}
use Rattle.link_hierarchy.proofs.hierarchy.circle_among.Goals as goal

pub returns : goal.returns
returns c = least_of_all _ _ _ _ c.requires.settled c.requires.covers (subst (LeastAmong c.args.classes.now.entries c.args.left.now) c.in-Some.is c.in_ok-class.ensures)
