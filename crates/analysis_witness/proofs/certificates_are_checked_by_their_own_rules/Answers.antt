-- By the laws of certificates, of forms and files, and of defects.
use Rattle.analysis_witness.proofs.Checking.{are_checked}
use Rattle.analysis_witness.proofs.certificates_are_checked_by_their_own_rules.Goals as goal

pub returns : goal.returns
returns c = are_checked c.certificates_keep_their_laws.ensures c.lower_laws.ensures c.one_defect.ensures
