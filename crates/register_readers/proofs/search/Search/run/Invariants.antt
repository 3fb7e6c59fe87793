use Rattle.std.proofs.Common.{◌≡◌}
use Rattle.register_readers.proofs.Running.{Searched}
use Rattle.register_readers.proofs.search.Search.run.Given as goal

abbrev pub invariant-loop-pc : goal.invariant-loop-pc
invariant-loop-pc l = record { searched : Searched l.app l.method l.place.register l.place.pc l.self; unlisted : l.budget.readers ≡ l.fn.budget.readers }

abbrev pub decreases-loop-pc : goal.decreases-loop-pc
decreases-loop-pc l = l.budget.visits
