use Rattle.std.proofs.Common.{take}
use Rattle.vet_base.specs.Members.{In}
use Rattle.register_readers.specs.Searched.{Adds}
use Rattle.register_readers.proofs.search.Search.add_each.Given as goal

abbrev pub invariant-loop-pc : goal.invariant-loop-pc
invariant-loop-pc l = Adds (λ v. In v (take l.pc-index l.pcs)) l.fn.self l.self
