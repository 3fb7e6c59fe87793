use Rattle.http_witness.proofs.Telling.{calls_owe}
use Rattle.http_witness.proofs.the_calls_owe.Goals as goal

pub returns : goal.returns
returns c = calls_owe
