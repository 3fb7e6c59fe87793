use Rattle.device_witness.proofs.InOrder.{are_in_order}
use Rattle.device_witness.proofs.are_in_order.Goals as goal

pub returns : goal.returns
returns c = are_in_order
