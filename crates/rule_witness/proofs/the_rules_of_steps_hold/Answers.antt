use Rattle.rule_witness.proofs.StepFacts.{step_rules_hold}
use Rattle.rule_witness.proofs.the_rules_of_steps_hold.Goals as goal

pub returns : goal.returns
returns c = step_rules_hold
