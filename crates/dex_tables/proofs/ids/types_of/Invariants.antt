use Rattle.vet_base.specs.Script.{run}
use Rattle.dex_tables.specs.Tables.{type_row, types_at}
use Rattle.vet_base.proofs.Scripts.{Continues}
use Rattle.dex_tables.proofs.ids.types_of.Given as goal

abbrev pub invariant-loop-row : goal.invariant-loop-row
invariant-loop-row l = Continues l.table.size l.row (type_row l.file l.sizes l.table.at) l.types.items l.at (run (types_at l.file l.sizes l.table))
