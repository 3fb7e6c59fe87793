use Rattle.desk_answers.proofs.Coded.{answer_coded}
use Rattle.desk_answers.proofs.answers.answer_of.Goals as goal

pub returns-clause-coded : goal.returns-clause-coded
returns-clause-coded c = answer_coded _ _ _ c.in_ok-answer.ensures
