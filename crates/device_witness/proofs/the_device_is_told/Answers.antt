use Rattle.device_witness.proofs.Telling.{device_is_told}
use Rattle.device_witness.proofs.the_device_is_told.Goals as goal

pub returns : goal.returns
returns c = device_is_told
