use Rattle.event_index.specs.Kinds.{AreKinds}
use Rattle.event_index.proofs.kinds.Kinds.note_each.Given as goal

abbrev pub invariant-loop-name : goal.invariant-loop-name
invariant-loop-name l = AreKinds l.self
