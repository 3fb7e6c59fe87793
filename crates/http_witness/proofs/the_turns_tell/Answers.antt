use Rattle.http_witness.proofs.Telling.{turns_tell}
use Rattle.http_witness.proofs.the_turns_tell.Goals as goal

pub returns : goal.returns
returns c = turns_tell
