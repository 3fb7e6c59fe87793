use Rattle.client_witness.proofs.Cases.{one_case}
use Rattle.client_witness.proofs.a_lost_reply_makes_one_case.Goals as goal

pub returns : goal.returns
returns g c = λ judge. one_case (g.J.Judge.finds judge) (g.J.Judge.edition judge)
