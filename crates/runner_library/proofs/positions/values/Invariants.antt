use Rattle.std.proofs.Common.{◌-◌, length}
use Rattle.app_machine.specs.Library.{positions}
use Rattle.runner_library.proofs.Placed.{AreValues}
use Rattle.runner_library.proofs.positions.values.Given as goal
use Rattle.runner_state.specs.Shown.{register_in}

abbrev pub invariant-loop-register : goal.invariant-loop-register
invariant-loop-register l = AreValues (register_in l.registers) (positions l.kind l.at l.args) l.values.items

abbrev pub decreases-loop-register : goal.decreases-loop-register
decreases-loop-register l = length l.args - length l.values.items
