use Rattle.verdict.specs.Linked.{causes_beside}
use Rattle.app_stories.proofs.Coming.{of_table}
use Rattle.app_stories.proofs.judged.with_stories.Goals as goal

pub stories_by_table-requires-clause-derivable : goal.stories_by_table-requires-clause-derivable
stories_by_table-requires-clause-derivable c =
    let linked = c.args.linked.now in
    (of_table linked.app linked.papers.lists linked.papers.large linked.papers.declaration (causes_beside linked) c.args.judged c.in-Some.table c.requires.comes c.in-Some.is).derivable
