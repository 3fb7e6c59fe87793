use Rattle.std.proofs.Common.{◌≡◌, ◌+◌, take}
use Rattle.app_machine.specs.State.{result_register}
use Rattle.register_readers.specs.Found.{Asks, IsBehindOne, IsRight, count_of}
use Rattle.register_readers.specs.Searched.{IsFree}
use Rattle.register_readers.proofs.results.ask_behind_each.Given as goal

abbrev pub invariant-loop-step : goal.invariant-loop-step
invariant-loop-step l = record {
  free : IsFree l.tools.search;
  right : IsRight l.app l.method l.found;
  asks : Asks (λ q v. (q ≡ result_register) × IsBehindOne (take l.step-index l.steps) v) l.fn.found l.found;
  counted : count_of l.found + l.tools.budget.readers ≡ count_of l.fn.found + l.fn.tools.budget.readers;
}
