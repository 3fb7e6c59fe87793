use Rattle.std.proofs.Common.{◌≡◌, ◌++◌, take}
use Rattle.std.specs.List.{flat_map}
use Rattle.dex_writer.specs.Bytes.{u4_bytes}
use Rattle.dex_writer.proofs.bytes.put_u4s.Given as goal

abbrev pub invariant-loop-number : goal.invariant-loop-number
invariant-loop-number l = l.out.items ≡ l.fn.out.items ++ flat_map u4_bytes (take l.number-index l.numbers)
