use Rattle.machine_witness.proofs.Standing.{comes_first}
use Rattle.machine_witness.proofs.an_initialiser_comes_first.Goals as goal

pub returns : goal.returns
returns c = comes_first
