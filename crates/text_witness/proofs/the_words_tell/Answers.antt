use Rattle.text_witness.proofs.Telling.{words_tell}
use Rattle.text_witness.proofs.the_words_tell.Goals as goal

pub returns : goal.returns
returns c = words_tell
