use Rattle.rule_witness.proofs.Withheld.{calls_withhold}
use Rattle.rule_witness.proofs.the_rules_of_calls_withhold.Goals as goal

pub returns : goal.returns
returns c = calls_withhold
