use Rattle.std.proofs.Common.{take}
use Rattle.runner_local.proofs.Own.{HasLabels, labels_until}
use Rattle.runner_local.proofs.reading.own_labels.Given as goal
use Rattle.runner_state.specs.Shown.{register_in}

abbrev pub invariant-loop-register : goal.invariant-loop-register
invariant-loop-register l = HasLabels l.labels (labels_until (register_in l.registers) (take l.register-index l.from))
