use Rattle.std.proofs.Common.{◌∙◌}
use Rattle.runner_world.proofs.lives.Lives.grow.Goals as goal

pub loop-self-preserved : goal.loop-self-preserved
loop-self-preserved c = c.push_absent.ensures.kept ∙ c.loop-self.invariant

pub returns-in_err-push_absent-clause-kept : goal.returns-in_err-push_absent-clause-kept
returns-in_err-push_absent-clause-kept c = c.push_absent.ensures.kept ∙ c.loop-self.invariant
