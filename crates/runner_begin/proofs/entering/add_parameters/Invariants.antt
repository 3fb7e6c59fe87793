use Rattle.std.proofs.Common.{map}
use Rattle.runner_begin.proofs.Laid.{LaidFirst}
use Rattle.runner_begin.proofs.entering.add_parameters.Given as goal
use Rattle.runner_state.specs.Shown.{value_of}

abbrev pub invariant-loop-i : goal.invariant-loop-i
invariant-loop-i l = LaidFirst (map value_of l.values) (map value_of l.initial.arguments.items) l.kinds (map value_of l.arguments.items) l.i
