use Rattle.machine_witness.proofs.General.{strong_update_forgets}
use Rattle.machine_witness.proofs.a_strong_update_forgets.Goals as goal

pub returns : goal.returns
returns c = strong_update_forgets
