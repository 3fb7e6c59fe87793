use Rattle.desk_http.proofs.OneAnswer.{one_answer}
use Rattle.desk_http.proofs.law.requests_have_one_answer.Goals as goal

pub returns : goal.returns
returns c = one_answer
