use Rattle.std.proofs.Common.{◌≡◌, ◌+◌, take}
use Rattle.vet_base.specs.Members.{In}
use Rattle.register_readers.specs.Found.{Asks, IsRight, count_of}
use Rattle.register_readers.specs.Searched.{IsFree}
use Rattle.register_readers.proofs.finding.ask_all.Given as goal

abbrev pub invariant-loop-register : goal.invariant-loop-register
invariant-loop-register l = record {
  free : IsFree l.tools.search;
  right : IsRight l.app l.method l.found;
  asks : Asks (λ q v. In q (take l.register-index l.registers) × In v l.pcs) l.fn.found l.found;
  counted : count_of l.found + l.tools.budget.readers ≡ count_of l.fn.found + l.fn.tools.budget.readers;
}
