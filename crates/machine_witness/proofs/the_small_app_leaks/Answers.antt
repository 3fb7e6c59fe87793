use Rattle.machine_witness.proofs.Leaking.{leaks}
use Rattle.machine_witness.proofs.the_small_app_leaks.Goals as goal

pub returns : goal.returns
returns c = leaks
