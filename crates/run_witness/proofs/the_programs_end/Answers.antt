use Rattle.run_witness.proofs.Programming.{programs_end}
use Rattle.run_witness.proofs.the_programs_end.Goals as goal

pub returns : goal.returns
returns c = programs_end
