use Rattle.event_index.proofs.ListedRows.{RowsUpTo}
use Rattle.event_index.proofs.listed.rows_of.Given as goal

abbrev pub invariant-loop-class : goal.invariant-loop-class
invariant-loop-class l = RowsUpTo l.kinds l.classes l.rows.items l.class-index
