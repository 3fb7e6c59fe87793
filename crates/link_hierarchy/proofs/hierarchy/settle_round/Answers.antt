use Rattle.link_hierarchy.proofs.Rounds.{round_turns}
use Rattle.link_hierarchy.proofs.hierarchy.settle_round.Goals as goal

pub loop-name-preserved : goal.loop-name-preserved
loop-name-preserved c = round_turns c.args.classes.now.entries c.args.names.now c.args.outers.entries c.loop-name.name-index c.loop-name.outers.entries c.in_ok-more.more.entries c.loop-name.left.items c.name-item.result
    c.loop-name-test.true c.name-item.is c.loop-name.invariant c.in_ok-more.waits c.in_ok-left.left.items c.in_ok-left.ensures c.in_ok-more.ensures
