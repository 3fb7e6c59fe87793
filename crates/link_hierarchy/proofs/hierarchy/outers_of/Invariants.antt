use Rattle.std.proofs.Common.{length}
use Rattle.link_hierarchy.specs.Settled.{Settled, Covers}
use Rattle.link_hierarchy.proofs.hierarchy.outers_of.Given as goal

abbrev pub invariant-rounds : goal.invariant-rounds
invariant-rounds l = record { settled : Settled l.classes.entries l.outers.entries; covers : Covers l.classes.entries l.outers.entries l.left.items }

abbrev pub decreases-rounds : goal.decreases-rounds
decreases-rounds l = length l.left.items
