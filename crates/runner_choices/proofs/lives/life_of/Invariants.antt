use Rattle.std.proofs.Common.{◌≡◌, map, take}
use Rattle.app_model.specs.EventTable.{shown_event}
use Rattle.app_model.specs.declared.answers.EventRow.{EventRow}
use Rattle.runner_choices.specs.Choices.{row_on}
use Rattle.runner_choices.proofs.lives.life_of.Given as goal

abbrev pub invariant-loop-i : goal.invariant-loop-i
invariant-loop-i l = l.rows.items ≡ map (λ (event : EventRow). row_on l.app l.component.class (shown_event event)) (take l.i l.events)
