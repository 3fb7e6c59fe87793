use Rattle.runner_calls.proofs.Stacking.{none_left}
use Rattle.runner_calls.proofs.frames.Frames.end.Goals as goal

pub returns : goal.returns
returns c = none_left c.clear-2.new.self.items c.clear-2.ensures.items
