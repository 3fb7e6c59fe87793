use Rattle.answer_witness.proofs.Sought.{rows_are_sought}
use Rattle.answer_witness.proofs.rows_are_sought.Goals as goal

pub returns : goal.returns
returns c = rows_are_sought
