use Rattle.runner_calls.specs.Frames.{frames_of}
use Rattle.runner_steps.proofs.Went.{raises_none, raises_some}
use Rattle.runner_steps.proofs.library.raises.Goals as goal

pub returns-in-None : goal.returns-in-None
returns-in-None c = raises_none c.args.app.now (frames_of c.args.frames.now) c.args.script.left.now c.in-None.ensures

pub returns-in-Some : goal.returns-in-Some
returns-in-Some c = raises_some c.args.app.now (frames_of c.args.frames.now) c.args.script.left.now c.in-Some.landing c.in-Some.left.left.now c.in-Some.ensures
