use Rattle.std.proofs.Common.{ap, ◌∙◌}
use Rattle.played_machine.specs.Standing.{causes_of_target}
use Rattle.runner_stands.proofs.causes.cause_of_call.Goals as goal

pub returns-in-None : goal.returns-in-None
returns-in-None c = ap (causes_of_target c.args.ground.now.app.now c.args.ground.now.lists.now c.args.kind c.args.at.now) c.in-None.ensures

pub returns-in-Some : goal.returns-in-Some
returns-in-Some c = c.cause_of_target.ensures ∙ ap (causes_of_target c.args.ground.now.app.now c.args.ground.now.lists.now c.args.kind c.args.at.now) c.in-Some.ensures
