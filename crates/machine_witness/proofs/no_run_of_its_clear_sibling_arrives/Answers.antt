use Rattle.machine_witness.proofs.Clear.{never_arrives}
use Rattle.machine_witness.proofs.no_run_of_its_clear_sibling_arrives.Goals as goal

pub returns : goal.returns
returns c = never_arrives
