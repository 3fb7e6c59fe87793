use Rattle.machine_witness.proofs.Storing.{through_the_library}
use Rattle.machine_witness.proofs.labels_flow_through_the_library.Goals as goal

pub returns : goal.returns
returns c = through_the_library
