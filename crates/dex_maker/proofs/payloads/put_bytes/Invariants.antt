use Rattle.std.proofs.Common.{◌≡◌, ◌++◌, length}
use Rattle.dex_maker.specs.Payloads.{byte_units}
use Rattle.dex_maker.proofs.payloads.put_bytes.Given as goal

abbrev pub invariant-loop-rest : goal.invariant-loop-rest
invariant-loop-rest l = l.units.items ++ byte_units l.rest ≡ l.fn.units.items ++ byte_units l.bytes

abbrev pub decreases-loop-rest : goal.decreases-loop-rest
decreases-loop-rest l = length l.rest
