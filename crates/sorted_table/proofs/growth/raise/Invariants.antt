use Rattle.std.proofs.Common.{◌≡◌}
use Rattle.sorted_table.specs.Parts.{raised}
use Rattle.sorted_table.proofs.growth.raise.Given as goal

abbrev pub invariant-loop-i : goal.invariant-loop-i
invariant-loop-i l = l.starts.items ≡ raised l.from l.i l.fn.starts.items
