use Rattle.played_machine.specs.Step.{acts}
use Rattle.runner_steps.proofs.Does.{no_next, some_next}
use Rattle.runner_steps.proofs.doing.stays.Goals as goal

pub returns-then-is_empty-clause-same : goal.returns-then-is_empty-clause-same
returns-then-is_empty-clause-same c app lists w f fs = no_next c.args.step.now.next (acts app lists w f fs c.args.step.now.next c.args.step.now.act) c.is_empty.result c.is_empty.ensures c.if-is_empty.true

pub returns-else-is_empty-clause-same : goal.returns-else-is_empty-clause-same
returns-else-is_empty-clause-same c app lists w f fs = some_next c.args.step.now.next (acts app lists w f fs c.args.step.now.next c.args.step.now.act) c.is_empty.result c.is_empty.ensures c.if-is_empty.false
