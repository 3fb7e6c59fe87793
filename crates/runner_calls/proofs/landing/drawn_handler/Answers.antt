use Rattle.runner_calls.proofs.Raising.{handler_drawn, no_handler}
use Rattle.runner_calls.proofs.landing.drawn_handler.Goals as goal
use Rattle.runner_state.specs.Shown.{frame_in}

pub returns-in-None : goal.returns-in-None
returns-in-None c = no_handler c.args.app.now (frame_in c.args.frame.now) c.catches_of-catches.result.now c.args.script.left.now c.catches_of-catches.ensures c.in-None.ensures.drawn

pub returns-in-Some : goal.returns-in-Some
returns-in-Some c =
    handler_drawn c.args.app.now (frame_in c.args.frame.now) c.catches_of-catches.result.now c.args.script.left.now c.in-Some.i c.in-Some.left.left.now c.handler_at.result c.catches_of-catches.ensures c.in-Some.ensures.drawn c.in-Some.ensures.below c.handler_at.ensures
