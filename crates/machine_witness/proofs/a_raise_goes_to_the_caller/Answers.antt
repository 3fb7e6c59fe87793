use Rattle.machine_witness.proofs.General.{raises_to_callers}
use Rattle.machine_witness.proofs.a_raise_goes_to_the_caller.Goals as goal

pub returns : goal.returns
returns c = raises_to_callers
