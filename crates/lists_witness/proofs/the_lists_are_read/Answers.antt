use Rattle.lists_witness.proofs.Reading.{lists_are_read}
use Rattle.lists_witness.proofs.the_lists_are_read.Goals as goal

pub returns : goal.returns
returns c = lists_are_read
