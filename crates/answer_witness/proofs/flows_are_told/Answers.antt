use Rattle.answer_witness.proofs.Flows.{flows_are_told}
use Rattle.answer_witness.proofs.flows_are_told.Goals as goal

pub returns : goal.returns
returns c = flows_are_told c.one_defect.ensures
