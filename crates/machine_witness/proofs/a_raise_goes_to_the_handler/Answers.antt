use Rattle.machine_witness.proofs.General.{raises_to_handlers}
use Rattle.machine_witness.proofs.a_raise_goes_to_the_handler.Goals as goal

pub returns : goal.returns
returns c = raises_to_handlers
