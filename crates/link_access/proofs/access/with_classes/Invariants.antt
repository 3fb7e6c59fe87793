use Rattle.std.specs.Prelude.{fold}
use Rattle.link_hierarchy.proofs.FoldsOn.{FoldsOnto}
use Rattle.link_access.specs.Access.{with_class}
use Rattle.link_access.proofs.access.with_classes.Given as goal

abbrev pub invariant-loop-def : goal.invariant-loop-def
invariant-loop-def l = FoldsOnto (with_class l.dex) l.dex.classes l.def-index l.classes.entries (fold (with_class l.dex) l.fn.classes.entries l.dex.classes)
