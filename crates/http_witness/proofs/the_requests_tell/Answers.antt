use Rattle.http_witness.proofs.Asking.{requests_tell}
use Rattle.http_witness.proofs.the_requests_tell.Goals as goal

pub returns : goal.returns
returns c = requests_tell
