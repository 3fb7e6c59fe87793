use Rattle.std.proofs.Common.{◌∙◌}
use Rattle.analysis_rules.specs.Ruled.{analysis_of, app_of, lists_of}
use Rattle.app_flow.proofs.Moving.{checked_as}
use Rattle.app_flow.proofs.defect.defect_in.Goals as goal

pub returns : goal.returns
returns c =
    let rules = c.rules-rules.result in
    let analysis = c.rules-rules.ensures.analysis ∙ c.in_ok-indexes.ensures.analysis in
    let app = c.rules-rules.ensures.app ∙ c.in_ok-indexes.ensures.app in
    let lists = c.rules-rules.ensures.lists ∙ c.in_ok-indexes.ensures.lists in
    checked_as c.args.analysis (analysis_of rules) c.args.app.now (app_of rules) c.args.lists.now (lists_of rules) analysis app lists
    c.args.rows.now c.defect_by.result c.defect_by.ensures
