use Rattle.std.proofs.Common.{◌-◌, true, false}
use Rattle.sorted_table.specs.Between.{Between}
use Rattle.sorted_table.specs.Bounds.{counted}
use Rattle.sorted_table.specs.Parts.{BeginsWith}
use Rattle.sorted_table.proofs.part.begun.Given as goal

abbrev pub invariant-loop-low : goal.invariant-loop-low
invariant-loop-low g l = Between (BeginsWith (counted (g.S.Stretch.side l.stretch) l.inside) true) (BeginsWith (counted (g.S.Stretch.side l.stretch) l.inside) false) l.parts l.low l.high

abbrev pub decreases-loop-low : goal.decreases-loop-low
decreases-loop-low g l = l.high - l.low
