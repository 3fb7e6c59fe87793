use Rattle.std.proofs.Common.{arith}
use Rattle.runner_state.proofs.Marks.{has_label}
use Rattle.runner_state.proofs.labels.Labels.has.Goals as goal

pub returns : goal.returns
returns c = has_label c.args.self c.args.label c.has_bit.result (omega (arith, c.ranges.label)) c.has_bit.ensures
