use Rattle.std.proofs.Common.{refl}
use Rattle.app_flow.proofs.defect.defect_by.Goals as goal

pub returns-in-Ok : goal.returns-in-Ok
returns-in-Ok c = c.in-Ok.ensures.exact.0 refl
