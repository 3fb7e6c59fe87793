use Rattle.run_witness.proofs.Connecting.{connections_end}
use Rattle.run_witness.proofs.the_connections_end.Goals as goal

pub returns : goal.returns
returns c = connections_end
