use Rattle.event_index.proofs.Takers.{RegistersTo}
use Rattle.event_index.proofs.asked.asked_of.Given as goal

abbrev pub invariant-loop-index : goal.invariant-loop-index
invariant-loop-index l = RegistersTo l.kinds l.params l.own.items l.index
