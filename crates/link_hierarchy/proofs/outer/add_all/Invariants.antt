use Rattle.std.specs.Prelude.{fold}
use Rattle.link_hierarchy.specs.Hierarchy.{SameNames, add_once}
use Rattle.link_hierarchy.proofs.FoldsOn.{FoldsOnto}
use Rattle.link_hierarchy.proofs.outer.add_all.Given as goal

abbrev pub invariant-loop-name : goal.invariant-loop-name
invariant-loop-name l = record { same : SameNames l.seen.keys l.outer.items; folds : FoldsOnto add_once l.names l.name-index l.outer.items (fold add_once l.initial.outer.items l.names) }
