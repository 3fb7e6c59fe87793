use Rattle.std.proofs.Common.{[]}
use Rattle.vet_base.specs.Script.{run, each}
use Rattle.vet_base.proofs.Eaches.{Eaches}
use Rattle.link_listing.specs.Classes.{dex_classes}
use Rattle.link_listing.proofs.classes.classes_of.Given as goal

abbrev pub invariant-loop-dex : goal.invariant-loop-dex
invariant-loop-dex l = Eaches l.dexes l.dex-index dex_classes l.classes.entries (run (each dex_classes l.dexes []))
