use Rattle.std.proofs.Common.{arith}
use Rattle.runner_begin.proofs.Labelled.{all_labels, no_labels, one_label}
use Rattle.runner_begin.proofs.labelling.labels_at.Goals as goal

pub loop-source-init : goal.loop-source-init
loop-source-init c = no_labels c.args.sources.now c.args.position c.none-labels.result c.none-labels.ensures

pub loop-source-preserved : goal.loop-source-preserved
loop-source-preserved c =
    one_label c.args.sources.now c.args.position c.loop-source.labels c.with_category-labels.result c.loop-source.source-index _ c.loop-source-test.true c.with_category-labels.ensures c.loop-source.invariant

pub returns : goal.returns
returns c = all_labels c.args.sources.now c.args.position c.loop-source.labels c.loop-source.source-index (omega arith) c.loop-source.invariant
