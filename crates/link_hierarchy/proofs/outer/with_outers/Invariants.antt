use Rattle.std.proofs.Common.{length, map}
use Rattle.link_hierarchy.specs.Settled.{filled_by}
use Rattle.link_hierarchy.proofs.Filling.{Fills}
use Rattle.link_hierarchy.proofs.outer.with_outers.Given as goal

abbrev pub invariant-loop-name : goal.invariant-loop-name
invariant-loop-name l = Fills l.outers.entries l.list.items l.classes.entries (map (filled_by l.outers.entries) l.fn.classes.entries)

abbrev pub decreases-loop-name : goal.decreases-loop-name
decreases-loop-name l = length l.classes.entries
