use Rattle.std.proofs.Common.{sym, ◌∙◌}
use Rattle.app_model.proofs.Marked.{has_mark}
use Rattle.app_model.proofs.lookups.marks.Marks.has.Goals as goal

pub returns : goal.returns
returns c = c.has_bit.ensures ∙ sym (has_mark c.args.self.now.words c.args.i)
