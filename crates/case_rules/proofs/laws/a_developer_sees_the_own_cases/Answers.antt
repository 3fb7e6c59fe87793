use Rattle.case_rules.proofs.Rows.{same_replies, others_leave}
use Rattle.case_rules.proofs.laws.a_developer_sees_the_own_cases.Goals as goal

pub returns : goal.returns
returns c = record { same_replies = same_replies; others_change_nothing = others_leave }
