use Rattle.answer_witness.proofs.ComingOut.{apps_come_out}
use Rattle.answer_witness.proofs.apps_come_out.Goals as goal

pub returns : goal.returns
returns c = apps_come_out c.one_defect.ensures
