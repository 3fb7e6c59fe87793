use Rattle.case_rules.proofs.Refused.{refused_kept}
use Rattle.case_rules.proofs.laws.a_refusal_changes_nothing.Goals as goal

pub returns : goal.returns
returns c = refused_kept
