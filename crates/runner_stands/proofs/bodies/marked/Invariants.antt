use Rattle.std.proofs.Common.{◌≡◌, map}
use Rattle.runner_stands.specs.Stands.{at_body, marked_below, stand_of}
use Rattle.runner_stands.proofs.bodies.marked.Given as goal

abbrev pub invariant-loop-method : goal.invariant-loop-method
invariant-loop-method l = map stand_of l.stands.items ≡ map at_body (marked_below l.marks l.method)
