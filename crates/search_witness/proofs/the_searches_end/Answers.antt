use Rattle.search_witness.proofs.Ending.{searches_end}
use Rattle.search_witness.proofs.the_searches_end.Goals as goal

pub returns : goal.returns
returns c = searches_end
