use Rattle.event_index.proofs.Listing.{ColumnsUpTo}
use Rattle.event_index.proofs.comings.columns_of.Given as goal

abbrev pub invariant-loop-callback : goal.invariant-loop-callback
invariant-loop-callback l = ColumnsUpTo l.kinds l.callbacks l.columns.items l.callback-index
