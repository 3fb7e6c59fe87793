use Rattle.finding_witness.proofs.Telling.{findings_are_told}
use Rattle.finding_witness.proofs.the_findings_are_told.Goals as goal

pub returns : goal.returns
returns c = findings_are_told
