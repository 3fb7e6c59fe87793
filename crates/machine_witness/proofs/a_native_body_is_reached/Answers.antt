use Rattle.machine_witness.proofs.Ending.{native_is_reached}
use Rattle.machine_witness.proofs.a_native_body_is_reached.Goals as goal

pub returns : goal.returns
returns c = native_is_reached
