use Rattle.text_witness.proofs.Telling.{answers_tell}
use Rattle.text_witness.proofs.the_answers_tell.Goals as goal

pub returns : goal.returns
returns c = answers_tell
