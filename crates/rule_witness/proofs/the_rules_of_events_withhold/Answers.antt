use Rattle.rule_witness.proofs.Withheld.{events_withhold}
use Rattle.rule_witness.proofs.the_rules_of_events_withhold.Goals as goal

pub returns : goal.returns
returns c = events_withhold
