use Rattle.std.proofs.Common.{rules, take, ◌+◌, subst, sym}
use Rattle.vet_base.proofs.Members.{in_get_or}
use Rattle.app_stories.specs.Stories.{AreStories}
use Rattle.app_stories.proofs.Gathered.{stories_next}
use Rattle.app_stories.proofs.stories.stories_along.Goals as goal

pub story_of-requires-clause-there : goal.story_of-requires-clause-there
story_of-requires-clause-there g c = c.requires.there _ (in_get_or c.args.goals.now c.loop-goal.goal-index _ c.loop-goal-test.true)

pub loop-goal-preserved : goal.loop-goal-preserved
loop-goal-preserved g c =
    subst (AreStories (g.R.Rules.rule c.args.rules.now) (g.R.RuleSet.is_start c.args.rules.now) (take (c.loop-goal.goal-index + 1) c.args.goals.now))
    (sym c.in_ok-push.ensures.items)
    (stories_next c.args.goals.now c.loop-goal.goal-index c.loop-goal.stories.items _ c.in_ok-story.story c.loop-goal-test.true (search rules)
    c.loop-goal.invariant c.in_ok-story.ensures)
