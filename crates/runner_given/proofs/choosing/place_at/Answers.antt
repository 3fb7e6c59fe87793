use Rattle.std.proofs.Common.{arith}
use Rattle.runner_given.proofs.Chosen.{of_first, of_others}
use Rattle.runner_given.proofs.choosing.place_at.Goals as goal

pub returns-then-index-first : goal.returns-then-index-first
returns-then-index-first c = of_first c.args.first.now c.args.others.now c.args.index (omega arith)

pub returns-else-index-first : goal.returns-else-index-first
returns-else-index-first c = of_others c.args.first.now c.args.others.now c.args.index (omega arith) c.requires
