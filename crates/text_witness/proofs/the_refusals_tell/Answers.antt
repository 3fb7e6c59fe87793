use Rattle.text_witness.proofs.Telling.{refusals_tell}
use Rattle.text_witness.proofs.the_refusals_tell.Goals as goal

pub returns : goal.returns
returns c = refusals_tell
