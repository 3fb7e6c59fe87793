use Rattle.std.proofs.Common.{[]}
use Rattle.std.specs.Prelude.{fold}
use Rattle.link_hierarchy.proofs.FoldsOn.{FoldsOnto}
use Rattle.link_access.specs.Access.{with_classes}
use Rattle.link_access.proofs.access.accesses_of.Given as goal

abbrev pub invariant-loop-dex : goal.invariant-loop-dex
invariant-loop-dex l = FoldsOnto with_classes l.dexes l.dex-index l.classes.entries (fold with_classes [] l.dexes)
