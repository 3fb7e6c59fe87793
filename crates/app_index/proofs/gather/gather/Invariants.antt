use Rattle.app_index.proofs.Held.{Gathers}
use Rattle.app_index.proofs.gather.gather.Given as goal

abbrev pub invariant-loop-number : goal.invariant-loop-number
invariant-loop-number l = Gathers l.readers.items l.app.methods l.number
