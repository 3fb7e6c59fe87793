use Rattle.verdict.specs.Linked.{causes_beside}
use Rattle.verdict.proofs.Outcomes.{flow_is_within, flow_tells, judged_there, never_refused}
use Rattle.verdict.proofs.Tables.{judged_table}
use Rattle.verdict.proofs.judging.judge_linked.Goals as goal

pub judged_by-requires-clause-within : goal.judged_by-requires-clause-within
judged_by-requires-clause-within g c = λ κs lives. flow_is_within c.args.linked.now.app c.args.linked.now.papers.lists c.in_ok-flow.flow c.in_ok-flow.ensures.good

pub unreachable-requires : goal.unreachable-requires
unreachable-requires g c = never_refused c.in_ok-judged.field-0 _ c.in_ok-judged.ensures.none c.in-None.is c.in_ok-flow.ensures.good

pub returns-clause-told : goal.returns-clause-told
returns-clause-told g c =
    let app = c.args.linked.now.app in
    let lists = c.args.linked.now.papers.lists in
    let declaration = c.args.linked.now.papers.declaration in
    let beside = causes_beside c.args.linked.now in
    let laws = c.nothing_is_left_out.ensures in
    flow_tells laws.findings laws.causes c.each_good_table_covers_every_run.ensures app lists declaration beside c.in_ok-flow.flow c.in-Some.judged c.requires.sound c.in_ok-flow.ensures.good
    (judged_there app lists declaration beside c.in_ok-flow.flow c.in_ok-judged.field-0 c.in-Some.judged c.in_ok-judged.ensures.some c.in-Some.is)

pub returns-clause-table : goal.returns-clause-table
returns-clause-table g c =
    let app = c.args.linked.now.app in
    let lists = c.args.linked.now.papers.lists in
    let declaration = c.args.linked.now.papers.declaration in
    let beside = causes_beside c.args.linked.now in
    judged_table app lists c.args.linked.now.papers.large declaration beside c.in_ok-flow.flow c.in-Some.judged c.in_ok-flow.ensures.flow c.in_ok-flow.ensures.good c.requires.lists
    (judged_there app lists declaration beside c.in_ok-flow.flow c.in_ok-judged.field-0 c.in-Some.judged c.in_ok-judged.ensures.some c.in-Some.is)
