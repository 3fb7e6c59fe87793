use Rattle.std.proofs.Common.{arith}
use Rattle.runner_handed.proofs.Rows.{none_added, one_added}
use Rattle.runner_handed.proofs.adding.add.Goals as goal

pub returns-then-row-len : goal.returns-then-row-len
returns-then-row-len c = none_added c.args.rows.now.items c.args.place c.args.coming (omega arith)

pub returns : goal.returns
returns c = one_added c.args.rows.now.items c.args.place c.args.coming c.index_mut-places.result.now c.push.new.self (omega arith) c.index_mut-places.ensures.value c.in_ok-push.ensures.items
