use Rattle.form_witness.proofs.Telling.{codes_tell}
use Rattle.form_witness.proofs.the_codes_tell.Goals as goal

pub returns : goal.returns
returns c = codes_tell
