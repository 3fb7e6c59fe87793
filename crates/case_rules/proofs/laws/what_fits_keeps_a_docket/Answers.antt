use Rattle.case_rules.proofs.Dockets.{docket_after}
use Rattle.case_rules.proofs.Formed.{forms_stay}
use Rattle.case_rules.proofs.laws.what_fits_keeps_a_docket.Goals as goal

pub returns : goal.returns
returns c = record { docket = λ change cases fits docket. docket_after change cases docket fits; forms = forms_stay }
