use Rattle.std.proofs.Common.{ap, ◌∙◌}
use Rattle.played_machine.specs.Step.{calls_target}
use Rattle.runner_state.specs.Shown.{frame_in}
use Rattle.runner_steps.proofs.doing.calls.Goals as goal

pub returns-in-None-clause-same : goal.returns-in-None-clause-same
returns-in-None-clause-same c w fs = ap (calls_target c.args.ground.now.app.now c.args.ground.now.lists.now w (frame_in c.args.running.now) fs c.args.step.now.next c.args.kind c.args.at.now c.args.args.now) c.in-None.ensures

pub returns-in-Some-clause-same : goal.returns-in-Some-clause-same
returns-in-Some-clause-same c w fs = c.goes_to.ensures.same w (frame_in c.args.running.now) fs ∙ ap (calls_target c.args.ground.now.app.now c.args.ground.now.lists.now w (frame_in c.args.running.now) fs c.args.step.now.next c.args.kind c.args.at.now c.args.args.now) c.in-Some.ensures
