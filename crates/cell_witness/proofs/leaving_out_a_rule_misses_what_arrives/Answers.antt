-- The facts are proved over definitions alone.
use Rattle.cell_witness.proofs.Missing.{leaving_out_a_rule_misses}
use Rattle.cell_witness.proofs.leaving_out_a_rule_misses_what_arrives.Goals as goal

pub returns : goal.returns
returns c = leaving_out_a_rule_misses
