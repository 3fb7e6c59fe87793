use Rattle.dex_code.specs.Acts.{range_of}
use Rattle.dex_code.proofs.Payloads.{Ranges}
use Rattle.dex_code.proofs.acts.range_from.Given as goal

abbrev pub invariant-loop-i : goal.invariant-loop-i
invariant-loop-i l = Ranges l.first l.i l.count l.registers.items (range_of l.first l.count)
