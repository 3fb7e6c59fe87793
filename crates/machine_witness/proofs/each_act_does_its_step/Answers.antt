use Rattle.machine_witness.proofs.Acting.{acts_step}
use Rattle.machine_witness.proofs.each_act_does_its_step.Goals as goal

pub returns : goal.returns
returns c = acts_step
