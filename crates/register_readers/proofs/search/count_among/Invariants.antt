use Rattle.std.proofs.Common.{◌≡◌, ◌≤◌, length, take}
use Rattle.register_readers.specs.Searched.{readers_among}
use Rattle.register_readers.proofs.search.count_among.Given as goal

abbrev pub invariant-loop-pc : goal.invariant-loop-pc
invariant-loop-pc l = record {
  counted : l.count ≡ length (readers_among l.app l.method l.register (take l.pc-index l.pcs));
  within : l.count ≤ l.pc-index;
}
