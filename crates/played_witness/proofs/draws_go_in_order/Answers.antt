use Rattle.played_witness.proofs.Ordering.{in_order}
use Rattle.played_witness.proofs.draws_go_in_order.Goals as goal

pub returns : goal.returns
returns c = in_order
