use Rattle.std.proofs.Common.{Some, sym, ap, ◌∙◌}
use Rattle.app_model.specs.declared.answers.Target.{Target}
use Rattle.app_model.specs.Targets.{shown_target}
use Rattle.played_machine.specs.Standing.{causes_of_target}
use Rattle.runner_stands.proofs.causes.cause_of_target.Goals as goal

pub returns-in-Body : goal.returns-in-Body
returns-in-Body c = c.if_native.ensures ∙ ap (λ (t : Target). causes_of_target c.args.ground.now.app.now c.args.ground.now.lists.now c.args.kind c.args.at.now (Some (shown_target t))) (sym c.in-Body.is)

pub returns-in-Library : goal.returns-in-Library
returns-in-Library c = c.cause_of_class.ensures ∙ ap (λ (t : Target). causes_of_target c.args.ground.now.app.now c.args.ground.now.lists.now c.args.kind c.args.at.now (Some (shown_target t))) (sym c.in-Library.is)

pub returns-in-Nothing : goal.returns-in-Nothing
returns-in-Nothing c = ap (λ (t : Target). causes_of_target c.args.ground.now.app.now c.args.ground.now.lists.now c.args.kind c.args.at.now (Some (shown_target t))) (sym c.in-Nothing.is)
