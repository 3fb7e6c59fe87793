use Rattle.std.proofs.Common.{◌≡◌, map, take}
use Rattle.runner_local.proofs.changing.values_of.Given as goal
use Rattle.runner_state.specs.Shown.{register_in, value_of}

abbrev pub invariant-loop-register : goal.invariant-loop-register
invariant-loop-register l = map value_of l.values.items ≡ map (register_in l.registers) (take l.register-index l.from)
