use Rattle.vet_base.proofs.Eaches.{each_is_done}
use Rattle.link_listing.specs.Components.{component_rows}
use Rattle.link_listing.proofs.components.add_rows.Goals as goal

pub returns : goal.returns
unfolding component_rows
returns c = each_is_done _ _ _ _ _ c.loop-row-test.false c.loop-row.invariant
