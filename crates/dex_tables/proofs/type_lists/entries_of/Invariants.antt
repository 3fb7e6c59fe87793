use Rattle.vet_base.specs.Script.{run}
use Rattle.dex_tables.specs.TypeLists.{entry_row, entries_at}
use Rattle.vet_base.proofs.Repeats.{Repeats}
use Rattle.dex_tables.proofs.type_lists.entries_of.Given as goal

abbrev pub invariant-loop : goal.invariant-loop
invariant-loop l = Repeats l.size l.counter (entry_row l.file l.types l.list.table l.list.row l.list.at) l.entries.items l.place (run (entries_at l.file l.types l.list.table l.list.row l.list.at l.size l.fn.begin))
