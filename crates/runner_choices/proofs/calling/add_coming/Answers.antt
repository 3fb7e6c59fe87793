use Rattle.app_model.specs.EventBodies.{shown_callback}
use Rattle.runner_choices.specs.Choices.{called_by}
use Rattle.runner_choices.proofs.Made.{is_called, none_added, not_called, one_added}
use Rattle.runner_choices.proofs.calling.add_coming.Goals as goal

pub returns-in-None : goal.returns-in-None
returns-in-None c = none_added shown_callback c.args.all.now.items (called_by c.args.lists.now c.args.coming) (not_called c.args.lists.now c.args.coming c.in-None.ensures)

pub returns-in_ok-push-in-Some : goal.returns-in_ok-push-in-Some
returns-in_ok-push-in-Some c =
    one_added shown_callback c.args.all.now.items c.push.new.self.items _ (called_by c.args.lists.now c.args.coming) c.in_ok-push-in-Some.ensures.items
    (is_called c.args.lists.now c.args.coming c.in-Some.callback.now c.as_slice.result.now c.in-Some.ensures c.as_slice.ensures)
