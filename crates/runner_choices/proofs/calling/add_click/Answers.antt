use Rattle.std.proofs.Common.{[], option_map, ap}
use Rattle.app_model.specs.EventBodies.{called, shown_callback}
use Rattle.runner_choices.proofs.Made.{none_added, one_added}
use Rattle.runner_choices.proofs.calling.add_click.Goals as goal

pub returns-in-None : goal.returns-in-None
returns-in-None c = none_added shown_callback c.args.all.now.items (option_map (called []) c.args.body) (ap (option_map (called [])) c.in-None.is)

pub returns-in_ok-push-in-Some : goal.returns-in_ok-push-in-Some
returns-in_ok-push-in-Some c = one_added shown_callback c.args.all.now.items c.push.new.self.items _ (option_map (called []) c.args.body) c.in_ok-push-in-Some.ensures.items (ap (option_map (called [])) c.in-Some.is)
