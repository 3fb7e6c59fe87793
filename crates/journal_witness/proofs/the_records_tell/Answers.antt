use Rattle.journal_witness.proofs.Records.{records_tell}
use Rattle.journal_witness.proofs.the_records_tell.Goals as goal

pub returns : goal.returns
returns c = records_tell
