use Rattle.std.proofs.Common.{◌∙◌}
use Rattle.case_rules.proofs.Lasts.{last_by_place}
use Rattle.case_rules.proofs.case.Case.last_entry.Goals as goal

pub returns : goal.returns
returns c = c.last.ensures.value ∙ (rw c.as_slice.ensures (last_by_place c.args.self.now.entries))
