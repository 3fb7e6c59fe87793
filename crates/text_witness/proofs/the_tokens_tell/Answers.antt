use Rattle.text_witness.proofs.Telling.{tokens_tell}
use Rattle.text_witness.proofs.the_tokens_tell.Goals as goal

pub returns : goal.returns
returns c = tokens_tell
