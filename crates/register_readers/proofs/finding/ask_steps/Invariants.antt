use Rattle.std.proofs.Common.{◌≡◌, ◌+◌, take}
use Rattle.register_readers.specs.Found.{Asks, IsOfOne, IsRight, count_of}
use Rattle.register_readers.specs.Searched.{IsFree}
use Rattle.register_readers.proofs.finding.ask_steps.Given as goal

abbrev pub invariant-loop-step : goal.invariant-loop-step
invariant-loop-step l = record {
  free : IsFree l.tools.search;
  right : IsRight l.app l.method l.found;
  asks : Asks (IsOfOne (take l.step-index l.steps)) l.fn.found l.found;
  counted : count_of l.found + l.tools.budget.readers ≡ count_of l.fn.found + l.fn.tools.budget.readers;
}
