use Rattle.machine_witness.proofs.Ending.{not_safe}
use Rattle.machine_witness.proofs.leaking_apps_are_not_safe.Goals as goal

pub returns : goal.returns
returns c = not_safe
