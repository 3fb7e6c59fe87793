use Rattle.std.proofs.Common.{Some, sym, ap, ◌∙◌}
use Rattle.app_model.specs.declared.answers.Target.{Target}
use Rattle.app_model.specs.Targets.{shown_target}
use Rattle.played_machine.specs.Step.{calls_target}
use Rattle.runner_steps.proofs.doing.goes_to.Goals as goal

pub returns-in-Body-clause-same : goal.returns-in-Body-clause-same
returns-in-Body-clause-same c w f fs = c.enters.ensures.same w f fs ∙ ap (λ (t : Target). calls_target c.args.ground.now.app.now c.args.ground.now.lists.now w f fs c.args.step.now.next c.args.kind c.args.at.now c.args.args.now (Some (shown_target t))) (sym c.in-Body.is)

pub returns-in-Library-clause-same : goal.returns-in-Library-clause-same
returns-in-Library-clause-same c w f fs = c.goes_by_row.ensures.same w f fs ∙ ap (λ (t : Target). calls_target c.args.ground.now.app.now c.args.ground.now.lists.now w f fs c.args.step.now.next c.args.kind c.args.at.now c.args.args.now (Some (shown_target t))) (sym c.in-Library.is)

pub returns-in-Nothing-clause-same : goal.returns-in-Nothing-clause-same
returns-in-Nothing-clause-same c w f fs = ap (λ (t : Target). calls_target c.args.ground.now.app.now c.args.ground.now.lists.now w f fs c.args.step.now.next c.args.kind c.args.at.now c.args.args.now (Some (shown_target t))) (sym c.in-Nothing.is)
