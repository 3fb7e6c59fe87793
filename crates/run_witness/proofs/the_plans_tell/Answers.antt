use Rattle.run_witness.proofs.Planning.{plans_tell}
use Rattle.run_witness.proofs.the_plans_tell.Goals as goal

pub returns : goal.returns
returns c = plans_tell
