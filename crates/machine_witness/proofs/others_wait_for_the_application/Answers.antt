use Rattle.machine_witness.proofs.General.{others_wait}
use Rattle.machine_witness.proofs.others_wait_for_the_application.Goals as goal

pub returns : goal.returns
returns c = others_wait
