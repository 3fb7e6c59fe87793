use Rattle.machine_witness.proofs.Standing.{stands_there}
use Rattle.machine_witness.proofs.a_state_stands_where_nothing_is_known.Goals as goal

pub returns : goal.returns
returns c = stands_there
