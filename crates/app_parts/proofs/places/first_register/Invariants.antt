use Rattle.app_parts.proofs.Positions.{Passes}
use Rattle.app_parts.proofs.places.first_register.Given as goal

abbrev pub invariant-loop-kind : goal.invariant-loop-kind
invariant-loop-kind l = Passes l.types l.registers l.position l.kind-index l.left l.before
