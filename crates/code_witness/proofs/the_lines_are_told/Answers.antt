use Rattle.code_witness.proofs.Telling.{lines_are_told}
use Rattle.code_witness.proofs.the_lines_are_told.Goals as goal

pub returns : goal.returns
returns c = lines_are_told
