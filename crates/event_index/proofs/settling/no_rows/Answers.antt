use Rattle.event_index.proofs.AboveRows.{none_there, one_more_none}
use Rattle.event_index.proofs.settling.no_rows.Goals as goal

pub loop-class-init : goal.loop-class-init
loop-class-init c = rw c.new-rows.ensures.items none_there

pub loop-class-preserved : goal.loop-class-preserved
loop-class-preserved c = rw c.in_ok-push.ensures.items (one_more_none c.loop-class.rows.items c.loop-class.invariant)

pub returns : goal.returns
returns c = c.loop-class.invariant
