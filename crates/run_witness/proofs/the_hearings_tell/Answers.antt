use Rattle.run_witness.proofs.Hearing.{hearings_tell}
use Rattle.run_witness.proofs.the_hearings_tell.Goals as goal

pub returns : goal.returns
returns c = hearings_tell
