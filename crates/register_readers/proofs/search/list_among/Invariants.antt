use Rattle.std.proofs.Common.{◌≡◌, take}
use Rattle.register_readers.specs.Searched.{readers_among}
use Rattle.register_readers.proofs.search.list_among.Given as goal

abbrev pub invariant-loop-pc : goal.invariant-loop-pc
invariant-loop-pc l = l.readers.items ≡ readers_among l.app l.method l.register (take l.pc-index l.pcs)
