use Rattle.run_witness.proofs.Serving.{servings_end}
use Rattle.run_witness.proofs.the_servings_end.Goals as goal

pub returns : goal.returns
returns c = servings_end
