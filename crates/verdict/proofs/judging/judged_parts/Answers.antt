use Rattle.verdict.proofs.OneVerdict.{judged_only}
use Rattle.verdict.proofs.Outcomes.{judgement_on}
use Rattle.verdict.proofs.judging.judged_parts.Goals as goal

pub returns-in-Ok-clause-one : goal.returns-in-Ok-clause-one
returns-in-Ok-clause-one g c =
    judged_only c.lower_laws.ensures c.args.parts.now c.in_ok-linked.linked c.in-Ok.judged c.in_ok-linked.ensures.linked
    (judgement_on c.args.parts.now c.in_ok-linked.linked c.in-Ok.judged c.in_ok-linked.ensures.linked c.in-Ok.ensures.value)
