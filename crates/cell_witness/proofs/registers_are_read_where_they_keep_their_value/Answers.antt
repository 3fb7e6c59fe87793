-- The facts are proved over definitions alone.
use Rattle.cell_witness.proofs.Readers.{registers_are_read}
use Rattle.cell_witness.proofs.registers_are_read_where_they_keep_their_value.Goals as goal

pub returns : goal.returns
returns c = registers_are_read
