use Rattle.dex_code.specs.Insns.{int_pairs_at}
use Rattle.dex_code.proofs.Payloads.{ReadsPairs}
use Rattle.dex_code.proofs.payload_at.int_pairs_from.Given as goal

abbrev pub invariant-loop-i : goal.invariant-loop-i
invariant-loop-i l = ReadsPairs l.units l.keys l.values l.i l.count l.pairs.items (int_pairs_at l.units l.keys l.values l.count)
