use Rattle.rule_witness.proofs.Smallest.{smallest_is_good}
use Rattle.rule_witness.proofs.the_smallest_table_is_good.Goals as goal

pub returns : goal.returns
returns c = smallest_is_good
