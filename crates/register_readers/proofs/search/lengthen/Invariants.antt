use Rattle.std.proofs.Common.{suc, ◌-◌, vec_len}
use Rattle.register_readers.specs.Searched.{IsLonger}
use Rattle.register_readers.proofs.search.lengthen.Given as goal

abbrev pub invariant-loop-marks : goal.invariant-loop-marks
invariant-loop-marks l = IsLonger l.fn.marks.items l.marks.items

abbrev pub decreases-loop-marks : goal.decreases-loop-marks
decreases-loop-marks l = suc l.index - vec_len l.marks
