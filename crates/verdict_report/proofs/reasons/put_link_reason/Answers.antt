use Rattle.std.proofs.Common.{append_assoc}
use Rattle.verdict_report.specs.Reasons.{link_reason}
use Rattle.verdict_report.proofs.reasons.put_link_reason.Goals as goal

pub returns-in-TwoMembers : goal.returns-in-TwoMembers
unfolding link_reason
returns-in-TwoMembers c = rw c.in-TwoMembers.is (rw append_assoc at (rw c.as_slice-in-TwoMembers.ensures at c.put_member.ensures))
