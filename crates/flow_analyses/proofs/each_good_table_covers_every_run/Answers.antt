use Rattle.flow_analyses.proofs.Theorems.{each_covers}
use Rattle.flow_analyses.proofs.each_good_table_covers_every_run.Goals as goal

pub returns : goal.returns
returns c =
    each_covers c.app_rules_are_a_rule_set.ensures.good c.every_good_table_covers_every_run.ensures c.every_good_cell_table_covers_every_run.ensures
