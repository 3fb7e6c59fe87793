use Rattle.vet_base.specs.Script.{run, each}
use Rattle.vet_base.proofs.Eaches.{Eaches}
use Rattle.link_listing.specs.Components.{component_row}
use Rattle.link_listing.proofs.components.add_rows.Given as goal

abbrev pub invariant-loop-row : goal.invariant-loop-row
invariant-loop-row l = Eaches l.rows l.row-index (component_row l.classes.entries) l.components.items (run (each (component_row l.classes.entries) l.rows l.fn.components.items))
