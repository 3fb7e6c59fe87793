use Rattle.app_link.proofs.OneAnswer.{one_answer}
use Rattle.app_link.proofs.law.one_app_or_fault.Goals as goal

pub returns : goal.returns
returns c = one_answer c.code_laws.ensures
