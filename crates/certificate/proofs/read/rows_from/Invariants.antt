use Rattle.vet_base.specs.Script.{run}
use Rattle.vet_base.proofs.Repeats.{Repeats}
use Rattle.certificate.specs.Reading.{next_row, rows_from}
use Rattle.certificate.proofs.read.rows_from.Given as goal

abbrev pub invariant-loop : goal.invariant-loop
invariant-loop l = Repeats l.count l.counter (next_row l.set l.size) l.rows.items (l.last, l.rest) (run (rows_from l.set l.size l.count l.fn.bytes))
