use Rattle.event_index.proofs.Words.{JoinedUpTo}
use Rattle.event_index.proofs.bits.join.Given as goal

abbrev pub invariant-loop-at : goal.invariant-loop-at
invariant-loop-at l = JoinedUpTo l.fn.words l.other l.words l.at
