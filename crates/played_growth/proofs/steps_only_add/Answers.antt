use Rattle.played_growth.proofs.Stepping.{steps_grow}
use Rattle.played_growth.proofs.steps_only_add.Goals as goal

pub returns : goal.returns
returns c = steps_grow
