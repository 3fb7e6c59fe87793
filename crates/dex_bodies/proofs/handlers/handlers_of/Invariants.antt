use Rattle.vet_base.specs.Script.{run}
use Rattle.dex_bodies.specs.Handlers.{handler_row, handler_rows_at}
use Rattle.dex_bodies.specs.Rising.{AreRising}
use Rattle.vet_base.proofs.Repeats.{Repeats}
use Rattle.dex_bodies.proofs.handlers.handlers_of.Given as goal

abbrev pub invariant-loop : goal.invariant-loop
invariant-loop l = record {
  rising : AreRising l.handlers.items l.place.at;
  rows : Repeats l.count l.counter (handler_row l.file l.types l.code) l.handlers.items l.place (run (handler_rows_at l.file l.types l.code l.count l.fn.begin));
}
