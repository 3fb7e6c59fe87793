use Rattle.gated_log.proofs.OneLog.{log_laws}
use Rattle.gated_log.proofs.law.bytes_are_one_log.Goals as goal

pub returns : goal.returns
returns c = log_laws
