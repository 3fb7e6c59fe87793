use Rattle.vet_base.specs.Script.{run}
use Rattle.dex_tables.specs.Tables.{method_row, methods_at}
use Rattle.vet_base.proofs.Scripts.{Continues}
use Rattle.dex_tables.proofs.ids.methods_of.Given as goal

abbrev pub invariant-loop-row : goal.invariant-loop-row
invariant-loop-row l = Continues l.table.size l.row (method_row l.file l.sizes l.table.at) l.methods.items l.at (run (methods_at l.file l.sizes l.table))
