use Rattle.std.proofs.Common.{◌≡◌, true, false}
use Rattle.flow_story.proofs.Checked.{right_next, first_bad_is}
use Rattle.flow_story.proofs.checking.first_bad.Goals as goal

pub returns-then-not-is_right_at : goal.returns-then-not-is_right_at
returns-then-not-is_right_at g c =
    first_bad_is (g.R.Rules.rule c.args.rules.now) (g.R.RuleSet.is_start c.args.rules.now) c.args.lines.now c.loop-place.place c.loop-place-test.true
    (λ right. let t : c.is_right_at.result ≡ true = c.is_right_at.ensures.1 right in let f : c.is_right_at.result ≡ false = c.if-not-is_right_at.true in absurd cc)
    c.loop-place.invariant

pub loop-place-preserved : goal.loop-place-preserved
loop-place-preserved g c =
    right_next (g.R.Rules.rule c.args.rules.now) (g.R.RuleSet.is_start c.args.rules.now) c.args.lines.now c.loop-place.place c.loop-place.invariant (c.is_right_at.ensures.0 c.if-not-is_right_at.false)
