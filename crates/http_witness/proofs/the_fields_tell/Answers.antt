use Rattle.http_witness.proofs.Telling.{fields_tell}
use Rattle.http_witness.proofs.the_fields_tell.Goals as goal

pub returns : goal.returns
returns c = fields_tell
