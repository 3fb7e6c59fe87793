use Rattle.rule_witness.proofs.RowFacts.{rows_tell}
use Rattle.rule_witness.proofs.the_parts_of_rows_tell.Goals as goal

pub returns : goal.returns
returns c = rows_tell
