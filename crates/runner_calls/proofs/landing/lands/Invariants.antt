use Rattle.std.proofs.Common.{◌≡◌, ◌≤◌, length, take}
use Rattle.runner_calls.proofs.Stacking.{stack}
use Rattle.runner_calls.proofs.landing.lands.Given as goal
use Rattle.runner_calls.specs.Landing.{lands}

abbrev pub invariant-loop-below : goal.invariant-loop-below
invariant-loop-below l = record {
  within : l.below ≤ length l.frames.called.items;
  so_far : lands l.app (stack l.frames.called.items) l.script.left.now ≡ lands l.app (stack (take l.below l.frames.called.items)) l.left.left.now;
}

abbrev pub decreases-loop-below : goal.decreases-loop-below
decreases-loop-below l = l.below
