use Rattle.flow_story.proofs.Telling.{told}
use Rattle.flow_story.proofs.law.what_a_story_tells_is_derivable.Goals as goal

pub returns : goal.returns
returns g c = told (g.R.Rules.rule c.args.rules.now) (g.R.RuleSet.is_start c.args.rules.now)
