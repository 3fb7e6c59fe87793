use Rattle.std.proofs.Common.{◌≡◌, fold, take, flat_map}
use Rattle.cell_begin_rules.specs.CellBeginGiven.{by_source}
use Rattle.cell_begin_rules.proofs.registers.by_sources.Given as goal

abbrev pub invariant-loop-source : goal.invariant-loop-source
invariant-loop-source g l = l.out ≡ fold g.S.Sink.then l.fn.out (flat_map (by_source l.begun.readers.now l.begun.start l.register l.position) (take l.source-index l.sources))
