use Rattle.client_witness.proofs.Telling.{tries_tell}
use Rattle.client_witness.proofs.the_tries_tell.Goals as goal

pub returns : goal.returns
returns c = tries_tell
