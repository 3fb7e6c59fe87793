use Rattle.std.proofs.Common.{◌≡◌, ◌++◌, filter_map, map}
use Rattle.app_machine.specs.Summaries.{numbers_from}
use Rattle.app_model.specs.EventBodies.{shown_callback}
use Rattle.runner_choices.specs.Choices.{clicked}
use Rattle.runner_choices.proofs.calling.add_clicks.Given as goal

abbrev pub invariant-loop-number : goal.invariant-loop-number
invariant-loop-number l = map shown_callback l.all.items ≡ map shown_callback l.initial.all.items ++ filter_map (clicked l.app l.component) (numbers_from 0 l.number)
