-- The facts are proved over definitions alone.
use Rattle.reader_witness.proofs.Crowded.{crowds_are_refused}
use Rattle.reader_witness.proofs.crowds_of_readers_are_refused.Goals as goal

pub returns : goal.returns
returns c = crowds_are_refused
