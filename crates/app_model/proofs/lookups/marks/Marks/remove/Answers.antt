use Rattle.std.proofs.Common.{arith}
use Rattle.app_model.proofs.Marked.{unmarked_by}
use Rattle.app_model.proofs.lookups.marks.Marks.remove.Goals as goal

pub returns : goal.returns
returns c = unmarked_by c.args.self.now.words c.args.i c.without_bit.result (omega arith) c.without_bit.ensures.clear c.without_bit.ensures.others
