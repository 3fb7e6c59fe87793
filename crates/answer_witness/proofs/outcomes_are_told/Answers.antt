use Rattle.answer_witness.proofs.Gathered.{folder_is_gathered}
use Rattle.answer_witness.proofs.Told.{outcomes_are_told}
use Rattle.answer_witness.proofs.outcomes_are_told.Goals as goal

pub returns : goal.returns
returns c = (outcomes_are_told, folder_is_gathered)
