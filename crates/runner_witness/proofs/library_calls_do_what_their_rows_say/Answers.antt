use Rattle.runner_witness.proofs.Calling.{tells}
use Rattle.runner_witness.proofs.library_calls_do_what_their_rows_say.Goals as goal

pub returns : goal.returns
returns c = tells
