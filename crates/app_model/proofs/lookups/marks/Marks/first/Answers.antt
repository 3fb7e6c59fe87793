use Rattle.std.proofs.Common.{arith}
use Rattle.app_model.proofs.Marked.{none_marked, is_marked_at}
use Rattle.app_model.proofs.lookups.marks.Marks.first.Goals as goal

pub returns-then-word-ne0 : goal.returns-then-word-ne0
returns-then-word-ne0 c = (omega arith, is_marked_at c.args.self.now.words c.loop-at.at c.lowest_bit.result c.lowest_bit.ensures.within c.lowest_bit.ensures.set)

pub returns : goal.returns
returns c = none_marked c.args.self.now.words (λ k within. c.loop-at.invariant k (omega arith))
