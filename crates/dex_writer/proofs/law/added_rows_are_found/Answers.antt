use Rattle.dex_writer.proofs.Found.{added_found}
use Rattle.dex_writer.proofs.law.added_rows_are_found.Goals as goal

pub returns : goal.returns
returns c = added_found
