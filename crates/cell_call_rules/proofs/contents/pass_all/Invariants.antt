use Rattle.std.proofs.Common.{◌≡◌, fold}
use Rattle.rule_ground.specs.Below.{for_below}
use Rattle.cell_call_rules.specs.CellPassGiven.{passed_at}
use Rattle.cell_call_rules.proofs.contents.pass_all.Given as goal

abbrev pub invariant-loop-index : goal.invariant-loop-index
invariant-loop-index g l = l.out ≡ fold g.S.Sink.then l.fn.out (for_below (passed_at l.call.app.now l.call.readers.now l.call.node l.call.by l.call.kind l.call.args.now l.register l.content) l.index)
