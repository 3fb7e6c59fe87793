use Rattle.store_witness.proofs.Gates.{logs_tell}
use Rattle.store_witness.proofs.the_logs_tell.Goals as goal

pub returns : goal.returns
returns c = logs_tell
