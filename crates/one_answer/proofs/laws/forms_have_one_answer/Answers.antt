use Rattle.one_answer.proofs.Forms.{form_or_fault}
use Rattle.one_answer.proofs.laws.forms_have_one_answer.Goals as goal

pub returns : goal.returns
returns c = form_or_fault c.one_form_or_fault.ensures
