use Rattle.std.proofs.Common.{arith}
use Rattle.runner_handed.proofs.Rows.{all_of_them, none_of_them, one_of_them}
use Rattle.runner_handed.proofs.adding.add_each.Goals as goal

pub loop-coming-init : goal.loop-coming-init
loop-coming-init c = none_of_them c.args.place c.args.comings.now c.args.rows.now.items

pub loop-coming-preserved : goal.loop-coming-preserved
loop-coming-preserved c =
    one_of_them c.args.place c.args.comings.now c.args.rows.now.items c.loop-coming.rows.items c.add.new.rows.items c.loop-coming.coming-index _ c.loop-coming-test.true c.in_ok-add.ensures c.loop-coming.invariant

pub returns : goal.returns
returns c = all_of_them c.args.place c.args.comings.now c.args.rows.now.items c.loop-coming.rows.items c.loop-coming.coming-index (omega arith) c.loop-coming.invariant
