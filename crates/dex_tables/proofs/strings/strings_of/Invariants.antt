use Rattle.vet_base.specs.Script.{run}
use Rattle.dex_tables.specs.Tables.{string_row, strings_at}
use Rattle.vet_base.proofs.Repeats.{Repeats}
use Rattle.dex_tables.proofs.strings.strings_of.Given as goal

abbrev pub invariant-loop : goal.invariant-loop
invariant-loop l = Repeats l.table.size l.counter (string_row l.file l.table.at) l.names.items l.place (run (strings_at l.file l.table))
