use Rattle.dex_code.specs.Insns.{ints_at}
use Rattle.dex_code.proofs.Payloads.{Reads}
use Rattle.dex_code.proofs.payload_at.ints_from.Given as goal

abbrev pub invariant-loop-i : goal.invariant-loop-i
invariant-loop-i l = Reads l.units l.at l.i l.count l.ints.items (ints_at l.units l.at l.count)
