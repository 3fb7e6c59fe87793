use Rattle.std.proofs.Common.{arith}
use Rattle.app_model.proofs.Marked.{marked_by}
use Rattle.app_model.proofs.lookups.marks.Marks.insert.Goals as goal

pub returns : goal.returns
returns c = marked_by c.args.self.now.words c.args.i c.with_bit.result (omega arith) c.with_bit.ensures.set c.with_bit.ensures.others
