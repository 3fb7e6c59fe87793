use Rattle.std.proofs.Common.{◌≡◌, take}
use Rattle.app_machine.specs.State.{write_all}
use Rattle.runner_state.specs.Shown.{register_in, value_of}
use Rattle.runner_state.proofs.frame.Registers.set_all.Given as goal

abbrev pub invariant-loop-register : goal.invariant-loop-register
invariant-loop-register l = register_in l.self ≡ write_all (register_in l.initial.self) (take l.register-index l.registers) (value_of l.value)
