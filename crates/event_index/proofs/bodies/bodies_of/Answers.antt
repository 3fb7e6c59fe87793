use Rattle.event_index.proofs.EventBodies.{no_rows, one_more_row}
use Rattle.event_index.proofs.bodies.bodies_of.Goals as goal

pub loop-component-init : goal.loop-component-init
loop-component-init c = rw c.new-rows.ensures.items (no_rows c.args.app.now c.args.kind)

pub loop-component-preserved : goal.loop-component-preserved
loop-component-preserved c =
    rw c.in_ok-push.ensures.items (one_more_row c.args.app.now c.args.kind c.loop-component.rows.items c.loop-component.component c.in_ok-bodies_on.field-0 c.in_ok-bodies_on.ensures c.loop-component.invariant)

pub returns : goal.returns
returns c = c.loop-component.invariant.has
