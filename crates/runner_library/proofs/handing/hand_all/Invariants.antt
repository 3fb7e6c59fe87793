use Rattle.runner_library.proofs.Handed.{AreHanded}
use Rattle.runner_library.proofs.handing.hand_all.Given as goal

abbrev pub invariant-loop-value : goal.invariant-loop-value
invariant-loop-value l = AreHanded l.values l.initial.handed l.handed l.value-index
