use Rattle.std.proofs.Common.{arith}
use Rattle.runner_given.proofs.Chosen.{blank_first, place_next}
use Rattle.runner_given.proofs.choosing.value_at.Goals as goal
use Rattle.runner_state.specs.Shown.{value_of}

pub returns-then-index-eq0 : goal.returns-then-index-eq0
returns-then-index-eq0 c = blank_first c.args.first.now c.args.others.now c.args.index (value_of c.blank.result) (omega arith) c.blank.ensures

pub returns-else-index-eq0 : goal.returns-else-index-eq0
returns-else-index-eq0 c = place_next c.args.first.now c.args.others.now c.args.index c.place_at.result (value_of c.object_at.result) (omega arith) c.place_at.ensures c.object_at.ensures
