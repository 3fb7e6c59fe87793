use Rattle.std.proofs.Common.{◌≡◌, filter_map, map, take}
use Rattle.app_model.specs.EventBodies.{shown_callback}
use Rattle.runner_choices.specs.Choices.{called_by}
use Rattle.runner_choices.proofs.calling.called_by.Given as goal

abbrev pub invariant-loop-coming : goal.invariant-loop-coming
invariant-loop-coming l = map shown_callback l.all.items ≡ filter_map (called_by l.lists) (take l.coming-index l.comings)
