use Rattle.event_index.proofs.EventBodies.{BodyRowsUpTo}
use Rattle.event_index.proofs.bodies.bodies_of.Given as goal

abbrev pub invariant-loop-component : goal.invariant-loop-component
invariant-loop-component l = BodyRowsUpTo l.app l.kind l.rows.items l.component
