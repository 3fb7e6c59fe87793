use Rattle.std.proofs.Common.{take}
use Rattle.flow_trail.specs.Trails.{AreSame}
use Rattle.story_finder.proofs.finding.keyed.Given as goal

abbrev pub invariant-loop-row : goal.invariant-loop-row
invariant-loop-row l = AreSame l.rows (take l.row-index l.table)
