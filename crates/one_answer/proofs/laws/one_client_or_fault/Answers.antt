use Rattle.one_answer.proofs.Clients.{client_or_fault}
use Rattle.one_answer.proofs.laws.one_client_or_fault.Goals as goal

pub returns : goal.returns
returns c = client_or_fault
