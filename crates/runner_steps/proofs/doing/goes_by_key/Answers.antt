use Rattle.std.proofs.Common.{ap, ◌∙◌}
use Rattle.app_machine.specs.Lookups.{is_static_call}
use Rattle.app_parts.specs.Views.{shown_summary}
use Rattle.played_machine.specs.Step.{calls_row}
use Rattle.runner_steps.proofs.Does.{told_few}
use Rattle.runner_steps.proofs.Few.{summary_few}
use Rattle.runner_steps.proofs.doing.goes_by_key.Goals as goal

pub returns-in-None-clause-same : goal.returns-in-None-clause-same
returns-in-None-clause-same c w f fs = ap (calls_row c.args.ground.now.app.now c.args.ground.now.lists.now w f fs c.args.step.now.next c.args.kind c.args.at.now c.args.args.now) (c.in-None.ensures c.args.at.now (is_static_call c.args.kind))

pub returns-in-Some-clause-same : goal.returns-in-Some-clause-same
returns-in-Some-clause-same c w f fs = c.told.ensures.same c.args.ground.now.app.now c.args.ground.now.lists.now w f fs ∙ ap (calls_row c.args.ground.now.app.now c.args.ground.now.lists.now w f fs c.args.step.now.next c.args.kind c.args.at.now c.args.args.now) (c.in-Some.ensures c.args.at.now (is_static_call c.args.kind))

pub returns-in-Some-clause-few : goal.returns-in-Some-clause-few
returns-in-Some-clause-few c =
    told_few (record { kind = c.args.kind; at = c.args.at; args = c.args.args; view = c.in-Some.view }) c.told.result c.told.ensures.it
    (summary_few c.args.ground.now.lists.now c.args.key c.args.at.now (is_static_call c.args.kind) (shown_summary c.in-Some.view c.args.at.now (is_static_call c.args.kind)) c.requires.lists (c.in-Some.ensures c.args.at.now (is_static_call c.args.kind)))
