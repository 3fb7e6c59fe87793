use Rattle.event_rules.proofs.NothingBack.{NoReferences}
use Rattle.cell_event_rules.proofs.given_back.has_no_references.Given as goal

abbrev pub invariant-loop-kind : goal.invariant-loop-kind
invariant-loop-kind l = NoReferences l.params l.kind-index
