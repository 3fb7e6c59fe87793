use Rattle.keeper_witness.proofs.Keepers.{keepers_tell}
use Rattle.keeper_witness.proofs.the_keepers_tell.Goals as goal

pub returns : goal.returns
returns c = keepers_tell
