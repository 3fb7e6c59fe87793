-- The facts are proved over definitions alone.
use Rattle.reader_witness.proofs.Listed.{readers_are_listed}
use Rattle.reader_witness.proofs.readers_are_listed_where_rules_ask.Goals as goal

pub returns : goal.returns
returns c = readers_are_listed
