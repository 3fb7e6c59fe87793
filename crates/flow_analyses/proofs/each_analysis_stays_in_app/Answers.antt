use Rattle.flow_analyses.proofs.Theorems.{each_stays}
use Rattle.flow_analyses.proofs.each_analysis_stays_in_app.Goals as goal

pub returns : goal.returns
returns c =
    each_stays c.app_rules_are_a_rule_set.ensures.derivable c.rules_stay_in_app.ensures c.cell_rules_stay_in_app.ensures
