use Rattle.std.proofs.Common.{arith}
use Rattle.runner_given.proofs.Chosen.{none_chosen, some_chosen}
use Rattle.runner_given.proofs.choosing.one_of_places.Goals as goal
use Rattle.runner_state.specs.Shown.{value_of}

pub returns-in-None : goal.returns-in-None
returns-in-None c = none_chosen c.args.first.now c.args.others.now _ c.args.script.left.now (omega arith) c.in-None.ensures.drawn

pub returns-in-Some : goal.returns-in-Some
returns-in-Some c = some_chosen c.args.first.now c.args.others.now _ c.args.script.left.now c.in-Some.i c.in-Some.left.left.now (value_of c.value_at.result) (omega arith) c.in-Some.ensures.drawn c.value_at.ensures
