use Rattle.runner_witness.proofs.Acting.{tells}
use Rattle.runner_witness.proofs.instructions_do_what_they_say.Goals as goal

pub returns : goal.returns
returns c = tells
