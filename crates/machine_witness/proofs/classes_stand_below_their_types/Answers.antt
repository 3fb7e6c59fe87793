use Rattle.machine_witness.proofs.Resulting.{classes_stand_below}
use Rattle.machine_witness.proofs.classes_stand_below_their_types.Goals as goal

pub returns : goal.returns
returns c = classes_stand_below
