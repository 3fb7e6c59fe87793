use Rattle.event_index.proofs.Takers.{none_asked, one_more_asked}
use Rattle.event_index.proofs.asked.asked_of.Goals as goal

pub loop-index-init : goal.loop-index-init
loop-index-init c = rw c.new-own.ensures.items (none_asked c.args.kinds.now c.args.params.now)

pub loop-index-preserved : goal.loop-index-preserved
loop-index-preserved c =
    rw c.in_ok-push.ensures.items
    (one_more_asked c.args.kinds.now c.args.params.now c.loop-index.own.items c.loop-index.index c.asked_at.result c.asked_at.ensures c.loop-index.invariant)

pub returns : goal.returns
returns c = c.loop-index.invariant.has
