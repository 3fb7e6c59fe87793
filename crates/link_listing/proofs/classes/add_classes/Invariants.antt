use Rattle.vet_base.specs.Script.{run, each}
use Rattle.vet_base.proofs.Eaches.{Eaches}
use Rattle.link_listing.specs.Classes.{class_row}
use Rattle.link_listing.proofs.classes.add_classes.Given as goal

abbrev pub invariant-loop-def : goal.invariant-loop-def
invariant-loop-def l = Eaches l.dex.classes l.def-index (class_row l.dex) l.classes.entries (run (each (class_row l.dex) l.dex.classes l.fn.classes.entries))
