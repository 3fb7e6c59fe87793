use Rattle.std.proofs.Common.{◌∙◌}
use Rattle.analysis_rules.specs.Ruled.{analysis_of, app_of, lists_of}
use Rattle.app_flow.proofs.Moving.{accepted_as}
use Rattle.app_flow.proofs.flow.is_good.Goals as goal

pub returns : goal.returns
returns g c =
    let rules = c.rules-rules.result in
    let analysis = c.rules-rules.ensures.analysis ∙ c.in_ok-indexes.ensures.analysis in
    let app = c.rules-rules.ensures.app ∙ c.in_ok-indexes.ensures.app in
    let lists = c.rules-rules.ensures.lists ∙ c.in_ok-indexes.ensures.lists in
    accepted_as c.args.table.now.analysis (analysis_of rules) c.args.app.now (app_of rules) c.args.lists.now (lists_of rules) analysis app lists
    c.found.result.now c.args.table.now.rows c.is_accepted.result c.found.ensures.same c.is_accepted.ensures
