use Rattle.runner_state.specs.Shown.{held_at, value_of}
use Rattle.runner_state.proofs.Writing.{blank_registers}
use Rattle.runner_state.proofs.frame.Registers.blank.Goals as goal

pub returns : goal.returns
returns c = blank_registers (held_at c.new.result) (value_of c.blank.result) (value_of c.blank-2.result) c.new.ensures c.blank.ensures c.blank-2.ensures
