use Rattle.app_flow.proofs.Defecting.{one_defect}
use Rattle.app_flow.proofs.one_defect.Goals as goal

pub returns : goal.returns
returns c = one_defect c.rows_stand_in_order.ensures
