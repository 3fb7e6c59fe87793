use Rattle.std.proofs.Common.{take}
use Rattle.register_readers.specs.Searched.{Unmarks}
use Rattle.register_readers.proofs.search.unmark.Given as goal

abbrev pub invariant-loop-pc : goal.invariant-loop-pc
invariant-loop-pc l = Unmarks (take l.pc-index l.pcs) l.fn.marks.items l.marks.items
