use Rattle.std.proofs.Common.{◌≡◌, ◌++◌, length}
use Rattle.app_model.specs.Initialisers.{component_initialisers, initialisers_left}
use Rattle.runner_choices.proofs.calling.initialisers_of.Given as goal

abbrev pub invariant-loop-body : goal.invariant-loop-body
invariant-loop-body l = l.bodies.items ++ initialisers_left l.app l.walk ≡ component_initialisers l.app l.component

abbrev pub decreases-loop-body : goal.decreases-loop-body
decreases-loop-body l = length (initialisers_left l.app l.walk)
