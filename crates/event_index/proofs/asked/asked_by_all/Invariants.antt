use Rattle.event_index.proofs.Takers.{AskedTo}
use Rattle.event_index.proofs.asked.asked_by_all.Given as goal

abbrev pub invariant-loop-method : goal.invariant-loop-method
invariant-loop-method l = AskedTo l.kinds l.methods l.all.items l.method-index
