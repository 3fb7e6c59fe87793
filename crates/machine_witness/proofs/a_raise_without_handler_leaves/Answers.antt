use Rattle.machine_witness.proofs.General.{raises_nowhere_else}
use Rattle.machine_witness.proofs.a_raise_without_handler_leaves.Goals as goal

pub returns : goal.returns
returns c = raises_nowhere_else
