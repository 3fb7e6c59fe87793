use Rattle.std.proofs.Common.{◌+◌, length}
use Rattle.link_hierarchy.proofs.Search.{Searching, weight}
use Rattle.link_hierarchy.proofs.circle.is_above_itself.Given as goal

abbrev pub invariant-loop-name : goal.invariant-loop-name
invariant-loop-name l = Searching l.classes.entries l.root l.seen.keys l.queue.items

abbrev pub decreases-loop-name : goal.decreases-loop-name
decreases-loop-name l = weight l.classes.entries l.seen.keys + length l.queue.items
