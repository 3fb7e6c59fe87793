use Rattle.store_witness.proofs.Cases.{cases_are_kept}
use Rattle.store_witness.proofs.the_cases_are_kept.Goals as goal

pub returns : goal.returns
returns c = cases_are_kept
