use Rattle.vet_base.specs.Script.{run}
use Rattle.dex_tables.specs.Tables.{field_row, fields_at}
use Rattle.vet_base.proofs.Scripts.{Continues}
use Rattle.dex_tables.proofs.ids.fields_of.Given as goal

abbrev pub invariant-loop-row : goal.invariant-loop-row
invariant-loop-row l = Continues l.table.size l.row (field_row l.file l.sizes l.table.at) l.fields.items l.at (run (fields_at l.file l.sizes l.table))
