use Rattle.std.specs.List.{AllWithin}
use Rattle.case_keeper.specs.MemoryKeeper.{IsPast}
use Rattle.case_keeper.proofs.holding.first_queued_from.Given as goal

abbrev pub invariant-loop-place : goal.invariant-loop-place
invariant-loop-place l = AllWithin IsPast l.cases l.from l.place
