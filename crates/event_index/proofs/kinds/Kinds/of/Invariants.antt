use Rattle.event_index.specs.Kinds.{AreKinds}
use Rattle.event_index.proofs.kinds.Kinds.of.Given as goal

abbrev pub invariant-loop-name : goal.invariant-loop-name
invariant-loop-name l = AreKinds l.kinds

abbrev pub invariant-loop-callback : goal.invariant-loop-callback
invariant-loop-callback l = AreKinds l.kinds

abbrev pub invariant-loop-called : goal.invariant-loop-called
invariant-loop-called l = AreKinds l.kinds

abbrev pub invariant-loop-method : goal.invariant-loop-method
invariant-loop-method l = AreKinds l.kinds
