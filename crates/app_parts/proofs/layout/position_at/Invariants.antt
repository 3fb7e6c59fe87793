use Rattle.app_parts.proofs.Layouts.{Walks}
use Rattle.app_parts.proofs.layout.position_at.Given as goal

abbrev pub invariant-loop-kind : goal.invariant-loop-kind
invariant-loop-kind l = Walks l.params l.index l.kind-index l.position l.left
