use Rattle.rule_witness.proofs.RowFacts.{nodes_tell}
use Rattle.rule_witness.proofs.the_nodes_of_calls_tell.Goals as goal

pub returns : goal.returns
returns c = nodes_tell
