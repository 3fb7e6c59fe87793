use Rattle.http_witness.proofs.Telling.{links_tell}
use Rattle.http_witness.proofs.the_links_tell.Goals as goal

pub returns : goal.returns
returns c = links_tell
