use Rattle.http_witness.proofs.Telling.{replies_tell}
use Rattle.http_witness.proofs.the_replies_tell.Goals as goal

pub returns : goal.returns
returns c = replies_tell
