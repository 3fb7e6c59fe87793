use Rattle.std.proofs.Common.{sym, subst, ◌∙◌}
use Rattle.flow_telling.proofs.Telling.{telling_within}
use Rattle.outcomes.specs.Within.{AreWithin}
use Rattle.verdict.proofs.Outcomes.{good_is_within}
use Rattle.app_stories.proofs.Telling.{first_of_all}
use Rattle.app_stories.proofs.judged.goals_of.Goals as goal

pub arrivals_in-requires-clause-within : goal.arrivals_in-requires-clause-within
arrivals_in-requires-clause-within c =
    let linked = c.args.linked.now in
    let table = c.args.table.now in
    let good = c.all_derived_rows_are_good.ensures table.analysis linked.app linked.papers.lists table.rows c.requires.sound c.requires.lists c.requires.derivable.exact in
    let within = good_is_within table.analysis linked.app linked.papers.lists table.rows good in
    subst (AreWithin linked.app) (sym c.deref.ensures.value) (telling_within linked.app table.rows c.in_ok-telling.telling.items c.in_ok-telling.ensures within)

pub returns : goal.returns
returns c =
    let linked = c.args.linked.now in
    first_of_all linked.app linked.papers.lists linked.papers.declaration c.args.table.now.rows c.deref.result.now c.in_ok-goals.goals.items
    (c.deref.ensures.value ∙ c.in_ok-telling.ensures) c.in_ok-goals.ensures
