use Rattle.std.proofs.Common.{ℕ, ◌<◌, List, map, sym, subst, ap, ◌∙◌}
use Rattle.std.specs.List.{All}
use Rattle.app_machine.specs.Heap.{add_all}
use Rattle.app_machine.specs.Lookups.{is_static_call}
use Rattle.app_parts.specs.Views.{shown_summary}
use Rattle.runner_heap.specs.Objects.{heap_of}
use Rattle.runner_library.proofs.Finished.{add_three, few_stores}
use Rattle.runner_library.proofs.calling.add_all.Goals as goal
use Rattle.runner_library.specs.declared.adding.Added.{Added}
use Rattle.runner_library.specs.Call.{row_in}
use Rattle.runner_library.specs.Over.{added_of, puts_by, stores_by}
use Rattle.runner_state.specs.declared.value.Held.{Held}
use Rattle.runner_state.specs.Shown.{held_at, value_of}

pub add_stores-requires : goal.add_stores-requires
add_stores-requires c = record {
  sound = c.requires.sound;
  few = subst (All (λ (s : ℕ × ℕ). s.1 < 65536)) (sym (c.stores.ensures c.args.call.at.now (is_static_call c.args.call.kind))) (few_stores (row_in c.args.call) c.requires.few);
}

pub returns : goal.returns
returns c =
    add_three (heap_of c.args.heap.now) (heap_of c.add_puts.new.heap) (heap_of c.add_stores.new.heap) (heap_of c.add_copies.new.heap)
    (puts_by (map value_of c.args.before.now.values.items) (row_in c.args.call).puts) (stores_by c.args.app.now (map value_of c.args.before.now.values.items) (held_at c.args.statics.now) (row_in c.args.call).stores) (map added_of c.args.before.now.copies.items)
    (c.in_ok-add_puts.ensures
    ∙ (ap (λ b. add_all (heap_of c.args.heap.now) (puts_by (map value_of c.as_slice-values.result.now) (shown_summary c.args.call.view c.args.call.at.now b).puts)) c.is_static_call-is_static.ensures
    ∙ ap (λ (xs : List Held). add_all (heap_of c.args.heap.now) (puts_by (map value_of xs) (row_in c.args.call).puts)) c.as_slice-values.ensures.value))
    (c.in_ok-add_stores.ensures
    ∙ (ap (λ (xs : List Held). add_all (heap_of c.add_puts.new.heap) (stores_by c.args.app.now (map value_of xs) (held_at c.args.statics.now) c.stores.result.now)) c.as_slice-values.ensures.value
    ∙ ap (λ ss. add_all (heap_of c.add_puts.new.heap) (stores_by c.args.app.now (map value_of c.args.before.now.values.items) (held_at c.args.statics.now) ss)) (c.stores.ensures c.args.call.at.now (is_static_call c.args.call.kind))))
    (c.in_ok-add_copies.ensures ∙ ap (λ (xs : List Added). add_all (heap_of c.add_stores.new.heap) (map added_of xs)) c.as_slice-copies.ensures.value)
