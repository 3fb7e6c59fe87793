use Rattle.std.proofs.Common.{ap}
use Rattle.app_machine.specs.Heap.{labelled}
use Rattle.runner_state.proofs.value.Held.blank.Goals as goal

pub returns : goal.returns
returns c = ap labelled c.none.ensures
