-- Searches and stores compute.
use Rattle.std.proofs.Common.{refl}
use Rattle.access_path.specs.Paths.{cut}
use Rattle.answer_witness.specs.GroundFacts.{RowsAreSought}

pub rows_are_sought : RowsAreSought
unfolding cut
rows_are_sought n s k a b c d e l row rows = record {
  both_rows = refl;
  no_more = refl;
  keeps_least = refl;
  cuts = refl;
  other_register = refl;
  first_row = refl;
}
