use Rattle.std.proofs.Common.{◌≡◌, ◌+◌}
use Rattle.register_readers.specs.Found.{Asks, IsArgument, IsRight, count_of}
use Rattle.register_readers.specs.Searched.{IsFree}
use Rattle.register_readers.proofs.finding.ask_arguments.Given as goal

abbrev pub invariant-loop-i : goal.invariant-loop-i
invariant-loop-i l = record {
  free : IsFree l.tools.search;
  right : IsRight l.app l.method l.found;
  asks : Asks (IsArgument l.first l.i) l.fn.found l.found;
  counted : count_of l.found + l.tools.budget.readers ≡ count_of l.fn.found + l.fn.tools.budget.readers;
}
