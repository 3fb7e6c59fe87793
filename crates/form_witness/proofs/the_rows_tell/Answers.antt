use Rattle.form_witness.proofs.Telling.{rows_tell}
use Rattle.form_witness.proofs.the_rows_tell.Goals as goal

pub returns : goal.returns
returns c = rows_tell
