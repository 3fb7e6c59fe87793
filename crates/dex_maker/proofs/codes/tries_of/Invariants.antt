use Rattle.std.proofs.Common.{◌≡◌, map, take}
use Rattle.dex_maker.specs.Codes.{raw_try}
use Rattle.dex_maker.proofs.codes.tries_of.Given as goal

abbrev pub invariant-loop-item : goal.invariant-loop-item
invariant-loop-item l = l.items.items ≡ map (raw_try l.tables l.starts) (take l.item-index l.tries)
