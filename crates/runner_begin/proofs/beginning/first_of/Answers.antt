use Rattle.std.proofs.Common.{◌≡◌, List, sym, ap, subst, ◌∙◌}
use Rattle.std.specs.Prelude.{IfOk}
use Rattle.app_machine.specs.Heap.{Object}
use Rattle.runner_begin.specs.declared.event.Change.{Change}
use Rattle.runner_begin.specs.Events.{heap_by}
use Rattle.runner_begin.specs.Parameters.{planned_in}
use Rattle.runner_begin.proofs.Planned.{none_planned}
use Rattle.runner_begin.proofs.beginning.first_of.Goals as goal

pub returns-in-Keeps : goal.returns-in-Keeps
returns-in-Keeps c = λ heap. none_planned heap c.new.result.items c.new.ensures.items ∙ ap (heap_by heap) (sym c.in-Keeps.is)

pub returns-in-Sets : goal.returns-in-Sets
returns-in-Sets c = λ heap. none_planned heap c.new-in-Sets.result.items c.new-in-Sets.ensures.items ∙ ap (heap_by heap) (sym c.in-Sets.is)

pub returns-in-Makes : goal.returns-in-Makes
returns-in-Makes c = subst (λ (change : Change). IfOk c.born_first.result (λ first. (heap : List Object) → planned_in heap first.items ≡ heap_by heap change)) (sym c.in-Makes.is) c.born_first.ensures
