use Rattle.journal_witness.proofs.Journals.{journals_tell}
use Rattle.journal_witness.proofs.the_journals_tell.Goals as goal

pub returns : goal.returns
returns c = journals_tell
