use Rattle.disks.proofs.Left.{bytes_may_be_left}
use Rattle.disks.proofs.law.what_is_read_may_be_left.Goals as goal

pub returns : goal.returns
returns c = bytes_may_be_left
