use Rattle.std.proofs.Common.{◌≡◌, fold}
use Rattle.rule_ground.specs.Below.{for_below}
use Rattle.cell_call_rules.specs.CellPassGiven.{argument_at}
use Rattle.cell_call_rules.proofs.arguments.pass_arguments.Given as goal

abbrev pub invariant-loop-index : goal.invariant-loop-index
invariant-loop-index g l = l.out ≡ fold g.S.Sink.then l.fn.out (for_below (argument_at l.call.app.now l.call.readers.now (g.F.Facts.hits l.facts) l.call.node l.call.by l.call.kind l.call.args.now) l.index)
