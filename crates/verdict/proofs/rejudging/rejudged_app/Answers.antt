use Rattle.verdict.specs.Linked.{causes_beside}
use Rattle.verdict.proofs.Rechecks.{recheck_tells}
use Rattle.verdict.proofs.rejudging.rejudged_app.Goals as goal

pub returns-clause-told : goal.returns-clause-told
returns-clause-told c =
    recheck_tells c.nothing_is_left_out.ensures.findings c.nothing_is_left_out.ensures.causes c.each_good_table_covers_every_run.ensures c.args.linked.now.app c.args.linked.now.papers.lists c.args.linked.now.papers.large c.args.linked.now.papers.declaration
    (causes_beside c.args.linked.now) c.args.analysis c.args.rows.now c.in_ok-rechecked.rechecked c.requires.sound c.in_ok-rechecked.ensures
