use Rattle.search_witness.proofs.Keeping.{rows_are_kept}
use Rattle.search_witness.proofs.the_rows_are_kept.Goals as goal

pub returns : goal.returns
returns c = rows_are_kept
