use Rattle.std.proofs.Common.{◌≡◌, ◌++◌, take}
use Rattle.std.specs.List.{flat_map}
use Rattle.dex_maker.specs.Payloads.{pair_target}
use Rattle.dex_maker.proofs.payloads.put_pair_targets.Given as goal

abbrev pub invariant-loop-line : goal.invariant-loop-line
invariant-loop-line l = l.units.items ≡ l.fn.units.items ++ flat_map (pair_target l.starts l.at) (take l.line-index l.pairs)
