use Rattle.store_witness.proofs.Counts.{keepers_tell}
use Rattle.store_witness.proofs.the_keepers_tell.Goals as goal

pub returns : goal.returns
returns c = keepers_tell
