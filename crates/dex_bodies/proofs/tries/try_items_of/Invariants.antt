use Rattle.vet_base.specs.Script.{run}
use Rattle.dex_bodies.specs.Tries.{try_row, try_rows_at}
use Rattle.vet_base.proofs.Repeats.{Repeats}
use Rattle.dex_bodies.proofs.tries.try_items_of.Given as goal

abbrev pub invariant-loop : goal.invariant-loop
invariant-loop l = Repeats l.count l.counter (try_row l.file l.code) l.items.items l.place (run (try_rows_at l.file l.code l.count l.fn.begin))
