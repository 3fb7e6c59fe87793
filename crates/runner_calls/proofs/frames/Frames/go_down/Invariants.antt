use Rattle.std.proofs.Common.{◌≡◌, length}
use Rattle.runner_calls.proofs.frames.Frames.go_down.Given as goal
use Rattle.runner_calls.specs.Frames.{frames_of}
use Rattle.runner_calls.specs.Landing.{down_to}

abbrev pub invariant-loop-self : goal.invariant-loop-self
invariant-loop-self l = down_to l.below (frames_of l.self) ≡ down_to l.below (frames_of l.initial.self)

abbrev pub decreases-loop-self : goal.decreases-loop-self
decreases-loop-self l = length l.self.called.items
