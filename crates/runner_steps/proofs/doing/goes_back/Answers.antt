use Rattle.runner_calls.specs.Frames.{frames_of}
use Rattle.runner_state.specs.Shown.{frame_in}
use Rattle.runner_steps.proofs.Does.{ends_event, goes_nowhere, goes_on, tries_again}
use Rattle.runner_steps.proofs.doing.goes_back.Goals as goal

pub returns-in-None-clause-same : goal.returns-in-None-clause-same
returns-in-None-clause-same c lists w = ends_event c.args.ground.now.app.now w (frame_in c.args.running.now) c.args.register (frames_of c.args.frames.now) c.in-None.ensures

pub returns-then-running-clause-same : goal.returns-then-running-clause-same
returns-then-running-clause-same c lists w = tries_again c.args.ground.now.app.now w (frame_in c.args.running.now) c.args.register (frames_of c.args.frames.now) (frame_in c.in-Some.caller.now) c.in-Some.ensures c.if-running.true

pub returns-then-is_empty-clause-same : goal.returns-then-is_empty-clause-same
returns-then-is_empty-clause-same c lists w =
    goes_nowhere c.args.ground.now.app.now w (frame_in c.args.running.now) c.args.register (frames_of c.args.frames.now) (frame_in c.in-Some.caller.now) c.in-Some.ensures c.if-running.false c.next_of-next.result.now c.next_of-next.ensures c.is_empty.result c.is_empty.ensures c.if-is_empty.true

pub returns-else-is_empty-clause-same : goal.returns-else-is_empty-clause-same
returns-else-is_empty-clause-same c lists w =
    goes_on c.args.ground.now.app.now w (frame_in c.args.running.now) c.args.register (frames_of c.args.frames.now) (frame_in c.in-Some.caller.now) c.in-Some.ensures c.if-running.false c.next_of-next.result.now c.next_of-next.ensures c.is_empty.result c.is_empty.ensures c.if-is_empty.false
