use Rattle.client_law.proofs.Tries.{acts_once}
use Rattle.client_law.proofs.a_submission_acts_once.Goals as goal

pub returns : goal.returns
returns g c = λ judge. acts_once (g.J.Judge.finds judge) (g.J.Judge.edition judge)
