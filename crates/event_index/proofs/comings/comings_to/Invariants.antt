use Rattle.std.proofs.Common.{◌≡◌}
use Rattle.event_index.specs.Comings.{first_comings}
use Rattle.event_index.proofs.comings.comings_to.Given as goal

abbrev pub invariant-loop-row : goal.invariant-loop-row
invariant-loop-row l = l.own.items ≡ first_comings l.table.app.now l.table.listed.lists.now l.place.class.now.name l.row
