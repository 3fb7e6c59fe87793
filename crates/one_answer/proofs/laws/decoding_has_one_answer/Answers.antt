use Rattle.one_answer.proofs.Decoding.{code_or_fault}
use Rattle.one_answer.proofs.laws.decoding_has_one_answer.Goals as goal

pub returns : goal.returns
returns c = code_or_fault c.code_laws.ensures
