use Rattle.std.proofs.Common.{◌≡◌, map}
use Rattle.runner_state.specs.Shown.{entered_from, register_in, value_of}
use Rattle.runner_state.proofs.frame.Registers.entered.Given as goal

abbrev pub invariant-loop-i : goal.invariant-loop-i
invariant-loop-i l = register_in l.registers ≡ entered_from l.first l.i (map value_of l.arguments)
