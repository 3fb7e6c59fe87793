use Rattle.std.proofs.Common.{◌≡◌, fold}
use Rattle.rule_ground.specs.Below.{for_below}
use Rattle.cell_begin_rules.specs.CellBeginGiven.{at_index}
use Rattle.cell_begin_rules.proofs.registers.at_registers.Given as goal

abbrev pub invariant-loop-index : goal.invariant-loop-index
invariant-loop-index g l = l.out ≡ fold g.S.Sink.then l.fn.out (for_below (at_index l.begun.readers.now l.begun.start l.sources l.method) l.index)
