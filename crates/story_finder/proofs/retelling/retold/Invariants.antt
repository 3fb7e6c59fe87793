use Rattle.std.proofs.Common.{◌≡◌, filter_map, take}
use Rattle.flow_trail.specs.Trails.{lines_of}
use Rattle.story_finder.specs.Retelling.{retold}
use Rattle.story_finder.proofs.retelling.retold.Given as goal

abbrev pub invariant-loop-number : goal.invariant-loop-number
invariant-loop-number g l = l.lines.items ≡ filter_map (retold (lines_of l.trail) l.numbers) (take l.number-index l.numbers)
