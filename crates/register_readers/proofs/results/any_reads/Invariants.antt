use Rattle.std.proofs.Common.{◌≡◌, false, take}
use Rattle.register_readers.specs.Results.{any_reads}
use Rattle.register_readers.proofs.results.any_reads.Given as goal

abbrev pub invariant-loop-pc : goal.invariant-loop-pc
invariant-loop-pc l = any_reads l.app l.method (take l.pc-index l.pcs) ≡ false
