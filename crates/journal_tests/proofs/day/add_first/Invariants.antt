use Rattle.std.proofs.Common.{◌≡◌, None}
use Rattle.journal_tests.proofs.day.add_first.Given as goal

abbrev pub invariant-loop-done : goal.invariant-loop-done
invariant-loop-done g l = g.K.Keeper.told l.keeper ≡ None
