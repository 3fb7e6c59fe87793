use Rattle.flow_story.specs.Stories.{AreRight}
use Rattle.flow_story.proofs.checking.first_bad.Given as goal

abbrev pub invariant-loop-place : goal.invariant-loop-place
invariant-loop-place g l = AreRight (g.R.Rules.rule l.rules) (g.R.RuleSet.is_start l.rules) l.place l.lines
