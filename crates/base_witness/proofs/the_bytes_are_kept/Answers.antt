use Rattle.base_witness.proofs.Keeping.{bytes_are_kept}
use Rattle.base_witness.proofs.the_bytes_are_kept.Goals as goal

pub returns : goal.returns
returns c = bytes_are_kept
