use Rattle.runner_world.proofs.Setting.{none_there}
use Rattle.runner_world.proofs.lives.Lives.new.Goals as goal

pub returns : goal.returns
returns c = none_there c.new.result.items c.new.ensures.items
