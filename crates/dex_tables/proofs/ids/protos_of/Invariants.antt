use Rattle.vet_base.specs.Script.{run}
use Rattle.dex_tables.specs.Tables.{proto_row, protos_at}
use Rattle.vet_base.proofs.Scripts.{Continues}
use Rattle.dex_tables.proofs.ids.protos_of.Given as goal

abbrev pub invariant-loop-row : goal.invariant-loop-row
invariant-loop-row l = Continues l.table.size l.row (proto_row l.file l.sizes l.table.at) l.protos.items l.place (run (protos_at l.file l.sizes l.table l.total))
