use Rattle.machine_witness.proofs.Framing.{frames_step}
use Rattle.machine_witness.proofs.frames_come_and_go.Goals as goal

pub returns : goal.returns
returns c = frames_step
