use Rattle.verdict.specs.declared.outcome.Outcome.{Outcome}
use Rattle.verdict.specs.Tells.{IsFollowed, TellsAll}
use Rattle.app_stories.proofs.Coming.{told_value, told_outcome}
use Rattle.app_stories.proofs.judged.told_of.Goals as goal

pub returns-clause-value : goal.returns-clause-value
returns-clause-value g c =
    told_value c.args.linked.now c.in_ok-judged.judged c.with_stories.result c.in_ok-judged.ensures.value c.with_stories.ensures.outcome c.with_stories.ensures.stories

pub returns-clause-told : goal.returns-clause-told
returns-clause-told g c =
    let linked = c.args.linked.now in
    told_outcome (λ (o : Outcome). IsFollowed o → TellsAll linked.app linked.papers.lists linked.papers.declaration o) c.in_ok-judged.judged c.with_stories.result
    c.in_ok-judged.ensures.told c.with_stories.ensures.outcome
