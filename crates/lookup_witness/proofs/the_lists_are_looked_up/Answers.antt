use Rattle.lookup_witness.proofs.Looking.{lists_are_looked_up}
use Rattle.lookup_witness.proofs.the_lists_are_looked_up.Goals as goal

pub returns : goal.returns
returns c = lists_are_looked_up
