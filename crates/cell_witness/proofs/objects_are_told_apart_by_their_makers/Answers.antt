-- The facts are proved over definitions alone.
use Rattle.cell_witness.proofs.Made.{objects_are_made}
use Rattle.cell_witness.proofs.objects_are_told_apart_by_their_makers.Goals as goal

pub returns : goal.returns
returns c = objects_are_made
