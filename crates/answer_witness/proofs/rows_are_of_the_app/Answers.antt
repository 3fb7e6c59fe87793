use Rattle.answer_witness.proofs.Rows.{rows_are_of_the_app}
use Rattle.answer_witness.proofs.rows_are_of_the_app.Goals as goal

pub returns : goal.returns
returns c = rows_are_of_the_app
