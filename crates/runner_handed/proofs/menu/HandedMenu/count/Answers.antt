use Rattle.std.proofs.Common.{refl, arith}
use Rattle.runner_handed.proofs.Walked.{row_counted, rows_counted}
use Rattle.runner_handed.proofs.menu.HandedMenu.count.Goals as goal

pub loop-row-init : goal.loop-row-init
loop-row-init c w lists = refl

pub loop-row-preserved : goal.loop-row-preserved
loop-row-preserved c =
    row_counted c.args.self.now.rows.items c.loop-row.row c.loop-row.count c.in_ok-count.count c.index.result.now (omega arith) c.index.ensures (omega (arith, c.in_ok-count.ensures, c.len.ensures)) c.loop-row.invariant

pub returns : goal.returns
returns c = rows_counted c.args.self.now.rows.items c.loop-row.row c.loop-row.count (omega arith) (omega arith) c.loop-row.invariant
