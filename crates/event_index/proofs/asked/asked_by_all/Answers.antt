use Rattle.event_index.proofs.Takers.{no_methods, one_more_method}
use Rattle.event_index.proofs.asked.asked_by_all.Goals as goal

pub loop-method-init : goal.loop-method-init
loop-method-init c = rw c.new-all.ensures.items (no_methods c.args.kinds.now c.args.methods.now)

pub loop-method-preserved : goal.loop-method-preserved
loop-method-preserved c =
    rw c.in_ok-push.ensures.items
    (one_more_method c.args.kinds.now c.args.methods.now c.loop-method.all.items c.loop-method.method-index _ c.in_ok-own.own c.loop-method-test.true c.method-item.is
    c.in_ok-own.ensures c.loop-method.invariant)

pub returns : goal.returns
returns c = c.loop-method.invariant.has
