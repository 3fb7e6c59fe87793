use Rattle.machine_witness.proofs.Ending.{clear_goes_on}
use Rattle.machine_witness.proofs.the_clear_sibling_goes_on.Goals as goal

pub returns : goal.returns
returns c = clear_goes_on
