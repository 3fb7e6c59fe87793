use Rattle.case_records.proofs.Found.{changes_found}
use Rattle.case_records.proofs.law.changes_are_found.Goals as goal

pub returns : goal.returns
returns c = changes_found
