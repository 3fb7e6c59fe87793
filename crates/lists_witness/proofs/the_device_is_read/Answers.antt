use Rattle.lists_witness.proofs.ReadingDevice.{device_is_read}
use Rattle.lists_witness.proofs.the_device_is_read.Goals as goal

pub returns : goal.returns
returns c = device_is_read
