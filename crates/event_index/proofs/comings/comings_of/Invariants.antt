use Rattle.event_index.proofs.Listing.{ComingsUpTo}
use Rattle.event_index.proofs.comings.comings_of.Given as goal

abbrev pub invariant-loop-number : goal.invariant-loop-number
invariant-loop-number l = ComingsUpTo l.table.app.now l.table.listed.lists.now l.all.items l.number
