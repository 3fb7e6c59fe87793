use Rattle.lookup_witness.proofs.Looking.{statics_are_looked_up}
use Rattle.lookup_witness.proofs.the_readers_of_a_static_are_looked_up.Goals as goal

pub returns : goal.returns
returns c = statics_are_looked_up
