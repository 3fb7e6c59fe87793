use Rattle.std.proofs.Common.{map, sym, ap, ◌∙◌}
use Rattle.std.specs.Prelude.{option_to_list}
use Rattle.app_machine.specs.Heap.{add_all}
use Rattle.runner_heap.specs.Objects.{heap_of}
use Rattle.runner_library.proofs.Added.{put_one}
use Rattle.runner_library.proofs.adding.add_put.Goals as goal
use Rattle.runner_library.specs.Over.{puts_by}
use Rattle.runner_state.specs.Shown.{value_of}

pub returns-in_ok-add_element-in-Some : goal.returns-in_ok-add_element-in-Some
returns-in_ok-add_element-in-Some c =
    put_one (heap_of c.args.heap.now) (heap_of c.add_element.new.heap) (map value_of c.args.values.now) c.in-Some.from c.in-Some.to (value_of c.value_at-target.result) (value_of c.value_at-value.result) c.value_at-target.ensures c.value_at-value.ensures c.in_ok-add_element-in-Some.ensures
    ∙ ap (λ o. add_all (heap_of c.args.heap.now) (puts_by (map value_of c.args.values.now) (option_to_list o))) (sym c.in-Some.is)
