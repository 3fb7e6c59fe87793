use Rattle.lookup_witness.proofs.Looking.{app_is_looked_up}
use Rattle.lookup_witness.proofs.the_app_is_looked_up.Goals as goal

pub returns : goal.returns
returns c = app_is_looked_up
