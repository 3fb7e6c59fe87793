use Rattle.runner_choices.proofs.Made.{coming_added, none_coming}
use Rattle.runner_choices.proofs.asking.add.Goals as goal

pub returns-in-None : goal.returns-in-None
returns-in-None c = none_coming c.args.own.now.items c.args.row c.args.found c.in-None.is

pub returns-in_ok-push-in-Some : goal.returns-in_ok-push-in-Some
returns-in_ok-push-in-Some c = coming_added c.args.own.now.items c.push.new.self.items c.args.row c.in-Some.body c.args.found c.in-Some.is c.in_ok-push-in-Some.ensures.items
