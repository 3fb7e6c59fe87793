use Rattle.client_witness.proofs.Answering.{replies_tell}
use Rattle.client_witness.proofs.the_replies_tell.Goals as goal

pub returns : goal.returns
returns c = replies_tell
