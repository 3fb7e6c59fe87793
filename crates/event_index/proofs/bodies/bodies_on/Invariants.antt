use Rattle.event_index.proofs.EventBodies.{BodiesUpTo}
use Rattle.event_index.proofs.bodies.bodies_on.Given as goal

abbrev pub invariant-loop-number : goal.invariant-loop-number
invariant-loop-number l = BodiesUpTo l.app l.kind l.component l.bodies.items l.number
