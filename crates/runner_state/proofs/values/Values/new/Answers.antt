use Rattle.runner_state.proofs.Writing.{none_held}
use Rattle.runner_state.proofs.values.Values.new.Goals as goal

pub returns : goal.returns
returns c = none_held c.new.result.items c.new.ensures.items
