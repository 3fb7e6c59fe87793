use Rattle.runner_begin.proofs.Labelled.{NoneBelow}
use Rattle.runner_begin.proofs.labelling.is_none.Given as goal

abbrev pub invariant-loop-label : goal.invariant-loop-label
invariant-loop-label l = NoneBelow l.labels l.label
