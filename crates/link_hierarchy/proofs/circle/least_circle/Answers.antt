use Rattle.std.proofs.Common.{List, sym, subst, take}
use Rattle.app_machine.specs.Names.{Name}
use Rattle.link_hierarchy.specs.Circle.{LeastAmong}
use Rattle.link_hierarchy.proofs.Best.{front_grows}
use Rattle.link_hierarchy.proofs.circle.least_circle.Goals as goal

pub loop-name-preserved : goal.loop-name-preserved
loop-name-preserved c = subst (λ (ns : List Name). LeastAmong c.args.classes.now.entries ns c.in_ok-best.best) (sym (front_grows c.args.names.now c.loop-name.name-index c.name-item.result c.loop-name-test.true c.name-item.is))
    (c.in_ok-best.ensures (take c.loop-name.name-index c.args.names.now) c.loop-name.invariant)
