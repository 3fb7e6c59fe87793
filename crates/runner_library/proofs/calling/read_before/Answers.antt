use Rattle.std.proofs.Common.{ℕ, ◌≡◌, List, map, subst, ap, ◌∙◌}
use Rattle.app_machine.specs.declared.summary.Gives.TheVariants.{Joined}
use Rattle.app_machine.specs.Lookups.{is_static_call}
use Rattle.app_parts.specs.Views.{shown_summary}
use Rattle.runner_heap.specs.Objects.{heap_of}
use Rattle.runner_library.proofs.calling.read_before.Goals as goal
use Rattle.runner_library.specs.Call.{values_in}
use Rattle.runner_library.specs.Over.{copies_by, joined_by}
use Rattle.runner_state.specs.Shown.{labels_of, register_in, value_of}

pub returns-clause-labels : goal.returns-clause-labels
returns-clause-labels c =
    subst (λ b. (from : List ℕ) → (shown_summary c.args.call.view c.args.call.at.now b).gives ≡ Joined from →
    labels_of c.in_ok-labels.labels ≡ joined_by (heap_of c.args.heap.now) (values_in c.args.call (register_in c.args.registers.now)) from (shown_summary c.args.call.view c.args.call.at.now b).source) c.is_static_call-is_static.ensures
    (λ from is. c.in_ok-labels.ensures from is ∙ ap (λ vs. joined_by (heap_of c.args.heap.now) vs from (shown_summary c.args.call.view c.args.call.at.now c.is_static_call-is_static.result).source) (ap (map value_of) c.as_slice-slice.ensures.value ∙ c.in_ok-values.ensures))

pub returns-clause-copies : goal.returns-clause-copies
returns-clause-copies c =
    c.in_ok-copies.ensures
    ∙ (ap (λ vs. copies_by (heap_of c.args.heap.now) vs c.copies.result.now) (ap (map value_of) c.as_slice-slice.ensures.value ∙ c.in_ok-values.ensures)
    ∙ ap (copies_by (heap_of c.args.heap.now) (values_in c.args.call (register_in c.args.registers.now))) (c.copies.ensures c.args.call.at.now (is_static_call c.args.call.kind)))
