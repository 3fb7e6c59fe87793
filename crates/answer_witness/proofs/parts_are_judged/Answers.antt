use Rattle.answer_witness.proofs.Judging.{parts_are_judged}
use Rattle.answer_witness.proofs.parts_are_judged.Goals as goal

pub returns : goal.returns
returns c = parts_are_judged
