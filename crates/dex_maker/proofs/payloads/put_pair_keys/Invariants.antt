use Rattle.std.proofs.Common.{◌≡◌, ◌++◌, take}
use Rattle.std.specs.List.{flat_map}
use Rattle.dex_maker.specs.Payloads.{pair_key}
use Rattle.dex_maker.proofs.payloads.put_pair_keys.Given as goal

abbrev pub invariant-loop-key : goal.invariant-loop-key
invariant-loop-key l = l.units.items ≡ l.fn.units.items ++ flat_map pair_key (take l.key-index l.pairs)
