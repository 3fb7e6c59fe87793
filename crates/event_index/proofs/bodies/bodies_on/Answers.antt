use Rattle.event_index.proofs.EventBodies.{no_bodies, one_more_body}
use Rattle.event_index.proofs.bodies.bodies_on.Goals as goal

pub loop-number-init : goal.loop-number-init
loop-number-init c = rw c.new-bodies.ensures.items (no_bodies c.args.app.now c.args.kind c.args.component)

pub loop-number-preserved : goal.loop-number-preserved
loop-number-preserved c =
    rw c.in_ok-push.ensures.items (one_more_body c.args.app.now c.args.kind c.args.component c.loop-number.bodies.items c.loop-number.number c.body_of.result c.body_of.ensures c.loop-number.invariant)

pub returns : goal.returns
returns c = c.loop-number.invariant.are
