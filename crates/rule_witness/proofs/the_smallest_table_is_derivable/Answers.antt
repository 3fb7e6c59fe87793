use Rattle.rule_witness.proofs.Deriving.{derivable}
use Rattle.rule_witness.proofs.the_smallest_table_is_derivable.Goals as goal

pub returns : goal.returns
returns c = derivable
