use Rattle.rule_witness.proofs.HandedFacts.{handed_rules_hold}
use Rattle.rule_witness.proofs.the_rules_of_handed_results_hold.Goals as goal

pub returns : goal.returns
returns c = handed_rules_hold
