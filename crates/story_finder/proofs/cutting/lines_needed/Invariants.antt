use Rattle.flow_trail.specs.Trails.{lines_of}
use Rattle.story_finder.proofs.Resting.{Cutting}
use Rattle.story_finder.proofs.cutting.lines_needed.Given as goal

abbrev pub invariant-loop-number : goal.invariant-loop-number
invariant-loop-number g l = Cutting (lines_of l.trail) l.goal l.wanted.keys l.needed.items l.upto

abbrev pub decreases-loop-number : goal.decreases-loop-number
decreases-loop-number g l = l.upto
