use Rattle.std.proofs.Common.{◌≤◌}
use Rattle.vet_base.specs.Script.{run}
use Rattle.dex_bodies.specs.Handlers.{pair_row, pairs_at}
use Rattle.vet_base.proofs.Repeats.{Repeats}
use Rattle.dex_bodies.proofs.handlers.pairs_of.Given as goal

abbrev pub invariant-loop : goal.invariant-loop
invariant-loop l = record {
  forward : l.fn.begin.at ≤ l.place.at;
  rows : Repeats l.count l.counter (pair_row l.file l.types l.code) l.pairs.items l.place (run (pairs_at l.file l.types l.code l.count l.fn.begin));
}
