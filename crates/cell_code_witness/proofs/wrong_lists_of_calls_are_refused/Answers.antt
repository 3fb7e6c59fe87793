-- The law is proved over definitions alone.
use Rattle.cell_code_witness.proofs.Giving.{wrong_lists_of_calls_are_refused}
use Rattle.cell_code_witness.proofs.wrong_lists_of_calls_are_refused.Goals as goal

pub returns : goal.returns
returns c = wrong_lists_of_calls_are_refused
