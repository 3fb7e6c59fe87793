use Rattle.vet_base.specs.Script.{run}
use Rattle.dex_code.specs.Tries.{tries_at}
use Rattle.dex_code.proofs.Flows.{TriesFrom}
use Rattle.dex_code.proofs.tries.check_tries.Given as goal

abbrev pub invariant-loop-n : goal.invariant-loop-n
invariant-loop-n l = TriesFrom l.size l.lines l.n l.tries (run (tries_at l.size l.lines 0 l.tries))
