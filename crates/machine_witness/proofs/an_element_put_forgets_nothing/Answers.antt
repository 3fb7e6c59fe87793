use Rattle.machine_witness.proofs.General.{elements_stay}
use Rattle.machine_witness.proofs.an_element_put_forgets_nothing.Goals as goal

pub returns : goal.returns
returns c = elements_stay
