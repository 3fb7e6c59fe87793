use Rattle.std.proofs.Common.{◌≡◌, fold, take, flat_map}
use Rattle.cell_begin_rules.specs.CellBeginGiven.{element}
use Rattle.cell_begin_rules.proofs.registers.elements.Given as goal

abbrev pub invariant-loop-source : goal.invariant-loop-source
invariant-loop-source g l = l.out ≡ fold g.S.Sink.then l.fn.out (flat_map (element l.begun.readers.now l.begun.start l.params) (take l.source-index l.sources))
