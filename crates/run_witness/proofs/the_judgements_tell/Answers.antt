use Rattle.run_witness.proofs.Judging.{judgements_tell}
use Rattle.run_witness.proofs.the_judgements_tell.Goals as goal

pub returns : goal.returns
returns c = judgements_tell
