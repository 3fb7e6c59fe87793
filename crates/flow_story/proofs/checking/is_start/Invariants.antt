use Rattle.flow_story.proofs.Checked.{IsNotBefore}
use Rattle.flow_story.proofs.checking.is_start.Given as goal

abbrev pub invariant-loop-place : goal.invariant-loop-place
invariant-loop-place g l = IsNotBefore (g.R.RuleSet.starts l.rules) l.row l.place
