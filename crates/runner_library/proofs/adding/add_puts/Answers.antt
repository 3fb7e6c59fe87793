use Rattle.std.proofs.Common.{map, ap, arith, ◌∙◌}
use Rattle.std.specs.Prelude.{option_to_list}
use Rattle.app_machine.specs.Heap.{add_all}
use Rattle.app_parts.specs.Views.{shown_summary}
use Rattle.runner_heap.specs.Objects.{heap_of}
use Rattle.runner_library.proofs.Added.{all_added, put_adds, some_added}
use Rattle.runner_library.proofs.adding.add_puts.Goals as goal
use Rattle.runner_library.specs.Over.{puts_by}
use Rattle.runner_state.specs.Shown.{value_of}

pub loop-k-preserved : goal.loop-k-preserved
loop-k-preserved c =
    some_added (put_adds (map value_of c.args.values.now)) (shown_summary c.args.view c.args.at.now c.args.is_static).puts (heap_of c.args.heap.now) (heap_of c.loop-k.heap) (heap_of c.add_put.new.heap) c.loop-k.k
    (c.in_ok-add_put.ensures ∙ ap (λ o. add_all (heap_of c.loop-k.heap) (puts_by (map value_of c.args.values.now) (option_to_list o))) c.put_at.ensures) c.loop-k.invariant

pub returns : goal.returns
returns c =
    all_added (put_adds (map value_of c.args.values.now)) (shown_summary c.args.view c.args.at.now c.args.is_static).puts (heap_of c.args.heap.now) (heap_of c.loop-k.heap) c.loop-k.k (omega arith) c.loop-k.invariant
