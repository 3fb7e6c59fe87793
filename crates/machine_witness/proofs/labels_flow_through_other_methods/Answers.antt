use Rattle.machine_witness.proofs.Arriving.{by_other_methods}
use Rattle.machine_witness.proofs.labels_flow_through_other_methods.Goals as goal

pub returns : goal.returns
returns c = by_other_methods
