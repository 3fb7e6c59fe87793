use Rattle.vetting_desk.proofs.Commands.{found_alone}
use Rattle.vetting_desk.proofs.finding.found_by_make.Goals as goal

pub returns : goal.returns
returns g c = λ told count heard. rw c.said.ensures (found_alone _ told count heard c.made.result c.made.ensures)
