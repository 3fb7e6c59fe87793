use Rattle.vet_base.specs.Script.{run}
use Rattle.dex_reader.specs.ClassDefs.{class_row, class_rows_at}
use Rattle.vet_base.proofs.Scripts.{Continues}
use Rattle.dex_reader.proofs.class_defs.class_rows_of.Given as goal

abbrev pub invariant-loop-row : goal.invariant-loop-row
invariant-loop-row l = Continues l.table.size l.row (class_row l.file l.types l.table.at) l.rows.items l.place (run (class_rows_at l.file l.types l.table l.total))
