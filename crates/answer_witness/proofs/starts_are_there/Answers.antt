use Rattle.answer_witness.proofs.Rows.{starts_are_there}
use Rattle.answer_witness.proofs.starts_are_there.Goals as goal

pub returns : goal.returns
returns c = starts_are_there
