use Rattle.std.proofs.Common.{subst}
use Rattle.app_flow.specs.Defect.{IsChecked}
use Rattle.verdict.proofs.Outcomes.{good_is_within}
use Rattle.verdict.proofs.rejudging.rechecked_by.Goals as goal

pub outcome_of_rows-requires-clause-within : goal.outcome_of_rows-requires-clause-within
outcome_of_rows-requires-clause-within c =
    let app = c.args.linked.now.app in
    let lists = c.args.linked.now.papers.lists in
    let good = subst (IsChecked c.args.analysis app lists c.args.rows.now) c.in-None.is c.requires.found in
    good_is_within c.args.analysis app lists c.args.rows.now good

pub returns-in-Some : goal.returns-in-Some
returns-in-Some c =
    (c.requires.asked, subst (IsChecked c.args.analysis c.args.linked.now.app c.args.linked.now.papers.lists c.args.rows.now) c.in-Some.is c.requires.found)
