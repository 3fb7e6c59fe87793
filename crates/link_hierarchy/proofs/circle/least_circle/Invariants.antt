use Rattle.std.proofs.Common.{take}
use Rattle.link_hierarchy.specs.Circle.{LeastAmong}
use Rattle.link_hierarchy.proofs.circle.least_circle.Given as goal

abbrev pub invariant-loop-name : goal.invariant-loop-name
invariant-loop-name l = LeastAmong l.classes.entries (take l.name-index l.names) l.best
