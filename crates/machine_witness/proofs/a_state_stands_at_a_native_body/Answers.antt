use Rattle.machine_witness.proofs.Looking.{stands_at_native}
use Rattle.machine_witness.proofs.a_state_stands_at_a_native_body.Goals as goal

pub returns : goal.returns
returns c = stands_at_native
