use Rattle.runner_choices.proofs.Made.{row_further}
use Rattle.runner_choices.proofs.asking.asked_of.Goals as goal

pub loop-row-init : goal.loop-row-init
loop-row-init c = c.new-own.ensures.items

pub loop-row-preserved : goal.loop-row-preserved
loop-row-preserved c =
    row_further c.args.index.now.0 c.args.index.now.1 c.args.class.now c.loop-row.row c.loop-row.own.items c.add.new.own.items c.called.result c.called.ensures c.in_ok-add.ensures c.loop-row.invariant
