use Rattle.cert_rows.proofs.RowsAgain.{row_again}
use Rattle.cert_rows.proofs.law.rows_are_read_again.Goals as goal

pub returns : goal.returns
returns c = row_again
