use Rattle.std.proofs.Common.{◌≡◌, map, take}
use Rattle.dex_maker.specs.Codes.{handler_pair}
use Rattle.dex_maker.proofs.codes.pairs_of.Given as goal

abbrev pub invariant-loop-handler : goal.invariant-loop-handler
invariant-loop-handler l = l.pairs.items ≡ map (handler_pair l.tables l.starts) (take l.handler-index l.handlers)
