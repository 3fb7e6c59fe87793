use Rattle.rule_witness.proofs.EventFacts.{event_rules_hold}
use Rattle.rule_witness.proofs.the_rules_of_events_hold.Goals as goal

pub returns : goal.returns
returns c = event_rules_hold
