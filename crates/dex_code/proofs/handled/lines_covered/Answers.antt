use Rattle.dex_code.proofs.HandledLines.{covered_between}
use Rattle.dex_code.proofs.handled.lines_covered.Goals as goal

pub overflow_sub-result : goal.overflow_sub-result
overflow_sub-result c = (covered_between c.args.item.now c.args.lines.now _ _ _ _ c.from-start.ensures c.from.ensures c.lines_before-2.ensures c.lines_before.ensures).0

pub returns : goal.returns
returns c = (covered_between c.args.item.now c.args.lines.now _ _ _ _ c.from-start.ensures c.from.ensures c.lines_before-2.ensures c.lines_before.ensures).1
