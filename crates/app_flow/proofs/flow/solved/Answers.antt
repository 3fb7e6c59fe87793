use Rattle.std.proofs.Common.{sym, ap, ◌∙◌}
use Rattle.analysis_rules.specs.Ruled.{analysis_of, app_of, lists_of}
use Rattle.app_machine.specs.declared.lists.Lists.{Lists}
use Rattle.app_flow.proofs.Moving.{solved_as}
use Rattle.app_flow.proofs.flow.solved.Goals as goal

pub solved_by-requires-clause-limit : goal.solved_by-requires-clause-limit
solved_by-requires-clause-limit g c = λ κs lives. sym (ap (λ (l : Lists). l.rows) (c.rules-rules.ensures.lists ∙ c.in_ok-indexes.ensures.lists))

pub returns : goal.returns
returns g c =
    let rules = c.rules-rules.result in
    let analysis = c.rules-rules.ensures.analysis ∙ c.in_ok-indexes.ensures.analysis in
    let app = c.rules-rules.ensures.app ∙ c.in_ok-indexes.ensures.app in
    let lists = c.rules-rules.ensures.lists ∙ c.in_ok-indexes.ensures.lists in
    solved_as c.args.analysis (analysis_of rules) c.args.app.now (app_of rules) c.args.lists.now (lists_of rules) analysis app lists
    c.in_ok-found.found c.in_ok-found.ensures
