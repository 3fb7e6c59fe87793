use Rattle.std.proofs.Common.{◌-◌, length}
use Rattle.runner_world.specs.Shown.{KeepsLives}
use Rattle.runner_world.proofs.lives.Lives.grow.Given as goal

abbrev pub invariant-loop-self : goal.invariant-loop-self
invariant-loop-self l = KeepsLives l.initial.self l.self

abbrev pub decreases-loop-self : goal.decreases-loop-self
decreases-loop-self l = l.count - length l.self.items.items
