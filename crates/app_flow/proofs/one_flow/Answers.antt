use Rattle.app_flow.proofs.OneFlow.{one_flow}
use Rattle.app_flow.proofs.one_flow.Goals as goal

pub returns : goal.returns
returns c = one_flow c.rows_stand_in_order.ensures
