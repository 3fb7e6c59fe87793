use Rattle.std.proofs.Common.{◌∙◌}
use Rattle.runner_state.proofs.values.Values.grow.Goals as goal

pub loop-self-preserved : goal.loop-self-preserved
loop-self-preserved c = c.push_blank.ensures.kept ∙ c.loop-self.invariant

pub returns-in_err-push_blank-clause-kept : goal.returns-in_err-push_blank-clause-kept
returns-in_err-push_blank-clause-kept c = c.push_blank.ensures.kept ∙ c.loop-self.invariant
