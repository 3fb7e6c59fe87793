use Rattle.base_witness.proofs.Tabling.{tables_keep_rows}
use Rattle.base_witness.proofs.the_tables_keep_rows.Goals as goal

pub returns : goal.returns
returns c = tables_keep_rows
