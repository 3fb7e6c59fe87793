use Rattle.std.proofs.Common.{◌-◌, length}
use Rattle.runner_state.specs.Shown.{KeepsValues}
use Rattle.runner_state.proofs.values.Values.grow.Given as goal

abbrev pub invariant-loop-self : goal.invariant-loop-self
invariant-loop-self l = KeepsValues l.initial.self l.self

abbrev pub decreases-loop-self : goal.decreases-loop-self
decreases-loop-self l = l.count - length l.self.items.items
