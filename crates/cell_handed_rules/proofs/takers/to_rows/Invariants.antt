use Rattle.std.proofs.Common.{◌≡◌, fold, take}
use Rattle.cell_handed_rules.specs.CellHandedGiven.{takers}
use Rattle.cell_handed_rules.proofs.takers.to_rows.Given as goal

abbrev pub invariant-loop-row : goal.invariant-loop-row
invariant-loop-row g l = l.out ≡ fold g.S.Sink.then l.fn.out (takers l.with.index.now.0 l.with.readers.now l.with.index.now.1 (g.F.Facts.hits l.facts) (take l.row-index l.rows) l.with.offer l.with.class.now)
