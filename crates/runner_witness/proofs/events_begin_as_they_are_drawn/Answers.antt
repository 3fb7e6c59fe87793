use Rattle.runner_witness.proofs.Beginning.{tells}
use Rattle.runner_witness.proofs.events_begin_as_they_are_drawn.Goals as goal

pub returns : goal.returns
returns c = tells
