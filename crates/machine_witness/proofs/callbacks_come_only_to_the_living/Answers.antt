use Rattle.machine_witness.proofs.General.{only_born}
use Rattle.machine_witness.proofs.callbacks_come_only_to_the_living.Goals as goal

pub returns : goal.returns
returns c = only_born
