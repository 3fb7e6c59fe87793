use Rattle.std.proofs.Common.{ap}
use Rattle.played_machine.specs.Calling.{code_of}
use Rattle.played_machine.specs.Step.{calls_body}
use Rattle.runner_steps.proofs.Does.{enters_body}
use Rattle.runner_steps.proofs.doing.enters.Goals as goal

pub returns-in-None-clause-same : goal.returns-in-None-clause-same
returns-in-None-clause-same c w f fs = ap (calls_body w f fs c.args.args.now c.args.body) c.in-None.ensures

pub returns-in-Some-clause-same : goal.returns-in-Some-clause-same
returns-in-Some-clause-same c w f fs = enters_body c.args.ground.now.app.now c.args.ground.now.lists.now w f fs c.args.args.now c.args.body (code_of c.args.ground.now.app.now c.args.body) c.in-Some._method.now c.in-Some.ensures
