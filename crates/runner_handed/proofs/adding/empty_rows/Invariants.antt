use Rattle.runner_handed.specs.Reached.{AreEmpty}
use Rattle.runner_handed.proofs.adding.empty_rows.Given as goal

abbrev pub invariant-loop-row : goal.invariant-loop-row
invariant-loop-row l = AreEmpty l._row l.rows.items
