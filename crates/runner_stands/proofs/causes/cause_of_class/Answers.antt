use Rattle.std.proofs.Common.{ap, ◌∙◌}
use Rattle.app_machine.specs.Lookups.{is_static_call}
use Rattle.played_machine.specs.Standing.{cause_of_key}
use Rattle.runner_stands.proofs.Reasons.{by_class}
use Rattle.runner_stands.proofs.causes.cause_of_class.Goals as goal

pub returns-in-None : goal.returns-in-None
returns-in-None c =
    ap (cause_of_key c.args.ground.now.lists.now c.args.at.now (is_static_call c.args.kind)) c.in-None.ensures
    ∙ by_class c.args.ground.now.app.now c.args.ground.now.lists.now c.args.ground.now.library c.args.class.now c.args.kind c.args.at.now c.is_static_call-is_static.result c.requires.library c.is_static_call-is_static.ensures

pub returns-in-Some : goal.returns-in-Some
returns-in-Some c =
    c.if_reflective.ensures
    ∙ (ap (cause_of_key c.args.ground.now.lists.now c.args.at.now (is_static_call c.args.kind)) c.in-Some.ensures
    ∙ by_class c.args.ground.now.app.now c.args.ground.now.lists.now c.args.ground.now.library c.args.class.now c.args.kind c.args.at.now c.is_static_call-is_static.result c.requires.library c.is_static_call-is_static.ensures)
