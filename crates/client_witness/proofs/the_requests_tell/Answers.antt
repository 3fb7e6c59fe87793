use Rattle.client_witness.proofs.Requesting.{requests_tell}
use Rattle.client_witness.proofs.the_requests_tell.Goals as goal

pub returns : goal.returns
returns c = requests_tell
