use Rattle.machine_witness.proofs.Looking.{calls_go_upward}
use Rattle.machine_witness.proofs.calls_go_upward.Goals as goal

pub returns : goal.returns
returns c = calls_go_upward
