use Rattle.rule_witness.proofs.StepFacts.{effect_rules_hold}
use Rattle.rule_witness.proofs.the_rules_of_effects_hold.Goals as goal

pub returns : goal.returns
returns c = effect_rules_hold
