use Rattle.std.proofs.Common.{ap, ◌∙◌}
use Rattle.played_machine.specs.Step.{calls_row}
use Rattle.runner_steps.proofs.Does.{no_key, with_key}
use Rattle.runner_steps.proofs.doing.goes_by_row.Goals as goal

pub returns-in-None-clause-same : goal.returns-in-None-clause-same
returns-in-None-clause-same c w f fs =
    ap (calls_row c.args.ground.now.app.now c.args.ground.now.lists.now w f fs c.args.step.now.next c.args.kind c.args.at.now c.args.args.now)
    (no_key c.args.ground.now.app.now c.args.ground.now.lists.now c.args.ground.now.library c.args.class.now c.args.kind c.args.at.now c.is_static_call-is_static.result c.requires.library c.is_static_call-is_static.ensures c.in-None.ensures)

pub returns-in-Some-clause-same : goal.returns-in-Some-clause-same
returns-in-Some-clause-same c w f fs =
    c.goes_by_key.ensures.same w f fs
    ∙ ap (calls_row c.args.ground.now.app.now c.args.ground.now.lists.now w f fs c.args.step.now.next c.args.kind c.args.at.now c.args.args.now)
    (with_key c.args.ground.now.app.now c.args.ground.now.lists.now c.args.ground.now.library c.args.class.now c.args.kind c.args.at.now c.is_static_call-is_static.result c.requires.library c.is_static_call-is_static.ensures c.in-Some.key c.in-Some.ensures)
