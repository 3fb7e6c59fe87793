use Rattle.runner_begin.proofs.Labelled.{HasLabels}
use Rattle.runner_begin.proofs.labelling.labels_at.Given as goal

abbrev pub invariant-loop-source : goal.invariant-loop-source
invariant-loop-source l = HasLabels l.sources l.position l.labels l.source-index
