use Rattle.cert_rows.proofs.RowsFound.{rows_found}
use Rattle.cert_rows.proofs.law.rows_are_found.Goals as goal

pub returns : goal.returns
returns c = rows_found
