use Rattle.run_witness.proofs.Vetting.{vettings_end}
use Rattle.run_witness.proofs.the_vettings_end.Goals as goal

pub returns : goal.returns
returns c = vettings_end
