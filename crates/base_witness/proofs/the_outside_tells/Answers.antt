use Rattle.base_witness.proofs.Keeping.{outside_tells}
use Rattle.base_witness.proofs.the_outside_tells.Goals as goal

pub returns : goal.returns
returns c = outside_tells
