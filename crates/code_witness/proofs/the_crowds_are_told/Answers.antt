use Rattle.code_witness.proofs.Telling.{crowds_are_told}
use Rattle.code_witness.proofs.the_crowds_are_told.Goals as goal

pub returns : goal.returns
returns c = crowds_are_told
