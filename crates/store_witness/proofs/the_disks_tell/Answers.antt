use Rattle.store_witness.proofs.Moments.{disks_tell}
use Rattle.store_witness.proofs.the_disks_tell.Goals as goal

pub returns : goal.returns
returns c = disks_tell
