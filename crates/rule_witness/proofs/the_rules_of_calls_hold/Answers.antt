use Rattle.rule_witness.proofs.CallFacts.{call_rules_hold}
use Rattle.rule_witness.proofs.the_rules_of_calls_hold.Goals as goal

pub returns : goal.returns
returns c = call_rules_hold
