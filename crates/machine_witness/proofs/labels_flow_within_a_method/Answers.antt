use Rattle.machine_witness.proofs.Arriving.{within_on_create}
use Rattle.machine_witness.proofs.labels_flow_within_a_method.Goals as goal

pub returns : goal.returns
returns c = within_on_create
