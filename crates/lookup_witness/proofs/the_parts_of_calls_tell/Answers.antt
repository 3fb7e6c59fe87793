use Rattle.lookup_witness.proofs.Looking.{parts_are_told}
use Rattle.lookup_witness.proofs.the_parts_of_calls_tell.Goals as goal

pub returns : goal.returns
returns c = parts_are_told
