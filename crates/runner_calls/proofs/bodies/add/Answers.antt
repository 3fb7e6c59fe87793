use Rattle.runner_calls.proofs.Found.{with_none, with_one}
use Rattle.runner_calls.proofs.bodies.add.Goals as goal

pub returns-in-None : goal.returns-in-None
returns-in-None c = with_none c.args.app.now c.args.body c.args.found.now.items c.in-None.ensures

pub returns-in_ok-push-in-Some : goal.returns-in_ok-push-in-Some
returns-in_ok-push-in-Some c = with_one c.args.app.now c.args.body c.args.found.now.items c.in-Some._method.now c.push.new.self.items c.in-Some.ensures c.in_ok-push-in-Some.ensures.items
