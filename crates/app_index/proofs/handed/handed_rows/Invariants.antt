use Rattle.app_index.proofs.HandedRows.{HandedSoFar}
use Rattle.app_index.proofs.handed.handed_rows.Given as goal

abbrev pub invariant-loop-number : goal.invariant-loop-number
invariant-loop-number l = HandedSoFar l.rows l.number l.numbers.items
