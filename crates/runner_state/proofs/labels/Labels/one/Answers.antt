use Rattle.std.proofs.Common.{arith}
use Rattle.runner_state.proofs.Marks.{one_in}
use Rattle.runner_state.proofs.labels.Labels.one.Goals as goal

pub returns : goal.returns
returns c = one_in c.args.label c.with_bit.result (omega (arith, c.ranges.label)) c.with_bit.ensures.set c.with_bit.ensures.others
