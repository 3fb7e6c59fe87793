use Rattle.std.proofs.Common.{take}
use Rattle.app_stories.specs.Stories.{AreStories}
use Rattle.app_stories.proofs.stories.stories_along.Given as goal

abbrev pub invariant-loop-goal : goal.invariant-loop-goal
invariant-loop-goal g l = AreStories (g.R.Rules.rule l.rules) (g.R.RuleSet.is_start l.rules) (take l.goal-index l.goals) l.stories.items
