use Rattle.code_witness.proofs.Telling.{codes_are_told}
use Rattle.code_witness.proofs.the_codes_are_told.Goals as goal

pub returns : goal.returns
returns c = codes_are_told
