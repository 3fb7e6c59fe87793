use Rattle.run_witness.proofs.Submitting.{submissions_end}
use Rattle.run_witness.proofs.the_submissions_end.Goals as goal

pub returns : goal.returns
returns c = submissions_end
