use Rattle.client_replies.proofs.OneAnswer.{one_answer}
use Rattle.client_replies.proofs.law.replies_have_one_answer.Goals as goal

pub returns : goal.returns
returns c = one_answer
