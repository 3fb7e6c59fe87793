use Rattle.lists_witness.proofs.ReadingLarge.{large_is_read}
use Rattle.lists_witness.proofs.the_large_word_is_read.Goals as goal

pub returns : goal.returns
returns c = large_is_read
