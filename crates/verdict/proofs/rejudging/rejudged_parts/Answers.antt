use Rattle.verdict.proofs.Rechecks.{only_rejudged}
use Rattle.verdict.proofs.rejudging.rejudged_parts.Goals as goal

pub returns-clause-one : goal.returns-clause-one
returns-clause-one c =
    only_rejudged c.lower_laws.ensures c.args.parts.now c.args.analysis c.args.rows.now c.one_defect.ensures c.in_ok-linked.linked c.in_ok-rejudged_once.field-0 c.in_ok-linked.ensures.linked c.in_ok-rejudged_once.ensures.value
