use Rattle.std.proofs.Common.{◌≡◌, ◌++◌, take}
use Rattle.std.specs.List.{flat_map}
use Rattle.dex_writer.specs.Bytes.{u2_bytes}
use Rattle.dex_writer.proofs.bytes.put_units.Given as goal

abbrev pub invariant-loop-unit : goal.invariant-loop-unit
invariant-loop-unit l = l.out.items ≡ l.fn.out.items ++ flat_map u2_bytes (take l.unit-index l.units)
