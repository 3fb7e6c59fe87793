-- No rule of the second set gives a row from nothing.
use Rattle.rule_sets.specs.Premised.{every_rule_has_premises}
use Rattle.cell_rules.specs.KeptRules.{kept}
use Rattle.cell_rules.specs.Rules.{by_kept, by_local, by_heap, by_call, by_library, by_event, by_handed}
use Rattle.cell_rules.specs.Premised.{EveryCellRuleHasPremises}

pub every_cell_rule_has_premises : EveryCellRuleHasPremises
every_cell_rule_has_premises app lists rule row (by_kept (kept r is other)) = every_rule_has_premises app lists rule row r
every_cell_rule_has_premises app lists rule row (by_local r) = elim r [ ]
every_cell_rule_has_premises app lists rule row (by_heap r) = elim r [ ]
every_cell_rule_has_premises app lists rule row (by_call r) = elim r [ ]
every_cell_rule_has_premises app lists rule row (by_library r) = elim r [ ]
every_cell_rule_has_premises app lists rule row (by_event r) = elim r [ ]
every_cell_rule_has_premises app lists rule row (by_handed r) = elim r [ ]
