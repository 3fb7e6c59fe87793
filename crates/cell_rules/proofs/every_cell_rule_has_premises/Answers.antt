-- The law is proved over definitions alone.
use Rattle.cell_rules.proofs.Premised.{every_cell_rule_has_premises}
use Rattle.cell_rules.proofs.every_cell_rule_has_premises.Goals as goal

pub returns : goal.returns
returns c = every_cell_rule_has_premises
