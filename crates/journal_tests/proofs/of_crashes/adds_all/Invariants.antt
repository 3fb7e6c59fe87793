use Rattle.std.proofs.Common.{◌≡◌, None}
use Rattle.journal_tests.proofs.of_crashes.adds_all.Given as goal

abbrev pub invariant-loop-done : goal.invariant-loop-done
invariant-loop-done g l = g.K.Keeper.told l.keeper ≡ None
