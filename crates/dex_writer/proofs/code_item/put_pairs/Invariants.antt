use Rattle.std.proofs.Common.{◌≡◌, ◌++◌, take}
use Rattle.std.specs.List.{flat_map}
use Rattle.dex_writer.specs.CodeItem.{pair_bytes}
use Rattle.dex_writer.proofs.code_item.put_pairs.Given as goal

abbrev pub invariant-loop-kind : goal.invariant-loop-kind
invariant-loop-kind l = l.out.items ≡ l.fn.out.items ++ flat_map pair_bytes (take l.kind-index l.pairs)
