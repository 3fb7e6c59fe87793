use Rattle.flow_story.proofs.Reading.{right_if_told, right_if_given}
use Rattle.flow_story.proofs.checking.is_right.Goals as goal

pub returns-then-is_told_start : goal.returns-then-is_told_start
returns-then-is_told_start g c =
    right_if_told (g.R.Rules.rule c.args.rules.now) (g.R.RuleSet.is_start c.args.rules.now) c.args.before.now c.args.line.now c.is_told_start.result c.if-is_told_start.true c.is_told_start.ensures

pub returns : goal.returns
returns g c =
    right_if_given (g.R.Rules.rule c.args.rules.now) (g.R.RuleSet.is_start c.args.rules.now) c.args.before.now c.args.line.now c.is_told_start.result c.is_given.result c.if-is_told_start.false c.is_told_start.ensures c.is_given.ensures
