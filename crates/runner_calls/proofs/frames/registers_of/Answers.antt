use Rattle.std.proofs.Common.{map, arith, ◌∙◌}
use Rattle.runner_calls.proofs.Stacking.{entered_is}
use Rattle.runner_calls.proofs.frames.registers_of.Goals as goal
use Rattle.runner_state.specs.Shown.{value_of}

pub returns : goal.returns
returns c = c.in_ok-registers.ensures ∙ entered_is c.args.method.now (map value_of c.args.arguments.now) (omega arith)
