use Rattle.case_records.proofs.Again.{changes_again}
use Rattle.case_records.proofs.law.changes_are_read_again.Goals as goal

pub returns : goal.returns
returns c = changes_again
