use Rattle.run_witness.proofs.Commanding.{commands_tell}
use Rattle.run_witness.proofs.the_commands_tell.Goals as goal

pub returns : goal.returns
returns c = commands_tell
