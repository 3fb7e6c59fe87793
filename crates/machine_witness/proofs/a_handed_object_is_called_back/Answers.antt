use Rattle.machine_witness.proofs.General.{called_back}
use Rattle.machine_witness.proofs.a_handed_object_is_called_back.Goals as goal

pub returns : goal.returns
returns c = called_back
