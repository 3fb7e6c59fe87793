use Rattle.vet_base.specs.Script.{run}
use Rattle.dex_bodies.specs.Tries.{try_of, joined_at}
use Rattle.vet_base.proofs.Scripts.{Walks}
use Rattle.dex_bodies.proofs.tries.joined_of.Given as goal

abbrev pub invariant-loop-item : goal.invariant-loop-item
invariant-loop-item l = Walks l.items l.item-index (try_of l.list.handlers.now l.list.begin l.code) l.tries.items l.total (run (joined_at l.list.handlers.now l.list.begin l.code l.items l.fn.begin))
