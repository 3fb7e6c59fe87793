use Rattle.std.specs.Prelude.{fold}
use Rattle.link_hierarchy.proofs.FoldsOn.{FoldsOnto}
use Rattle.device_causes.specs.Platform.{longer_fit}
use Rattle.device_causes.proofs.platform.longest_fit.Given as goal

abbrev pub invariant-loop-start : goal.invariant-loop-start
invariant-loop-start l = FoldsOnto (longer_fit l.name) l.starts l.start-index l.longest (fold (longer_fit l.name) 0 l.starts)
