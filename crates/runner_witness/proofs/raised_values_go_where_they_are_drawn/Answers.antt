use Rattle.runner_witness.proofs.Raising.{tells}
use Rattle.runner_witness.proofs.raised_values_go_where_they_are_drawn.Goals as goal

pub returns : goal.returns
returns c = tells
