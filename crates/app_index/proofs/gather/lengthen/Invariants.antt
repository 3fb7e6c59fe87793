use Rattle.std.proofs.Common.{suc, ◌-◌, vec_len}
use Rattle.app_index.specs.Readers.{HoldsAlike}
use Rattle.app_index.proofs.gather.lengthen.Given as goal

abbrev pub invariant-loop-alloc : goal.invariant-loop-alloc
invariant-loop-alloc l = HoldsAlike l.fn.readers.items l.readers.items

abbrev pub decreases-loop-alloc : goal.decreases-loop-alloc
decreases-loop-alloc l = suc l.number - vec_len l.readers
