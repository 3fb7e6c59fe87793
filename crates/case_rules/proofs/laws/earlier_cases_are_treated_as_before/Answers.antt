use Rattle.case_rules.proofs.Raised.{treated_as_before}
use Rattle.case_rules.proofs.laws.earlier_cases_are_treated_as_before.Goals as goal

pub returns : goal.returns
returns c = treated_as_before
