use Rattle.runner_begin.proofs.Labelled.{with_label, without_label}
use Rattle.runner_begin.proofs.labelling.with_category.Goals as goal

pub returns-then-is_of : goal.returns-then-is_of
returns-then-is_of c = with_label c.args.labels c.joined.result c.args.category c.args.is_of c.one.result c.if-is_of.true c.joined.ensures c.one.ensures

pub returns-else-is_of : goal.returns-else-is_of
returns-else-is_of c = without_label c.args.labels c.args.labels c.args.category c.args.is_of c.if-is_of.false
