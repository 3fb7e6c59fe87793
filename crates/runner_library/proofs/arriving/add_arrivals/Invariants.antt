use Rattle.runner_library.proofs.Labelled.{HasArrived}
use Rattle.runner_library.proofs.arriving.add_arrivals.Given as goal

abbrev pub invariant-loop-label : goal.invariant-loop-label
invariant-loop-label l = HasArrived l.sink l.labels l.initial.arrivals.items l.arrivals.items l.label
