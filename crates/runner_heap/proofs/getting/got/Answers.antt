use Rattle.std.proofs.Common.{◌∷◌, ◌++◌, [], List, option_map, ap, ◌∙◌, arith}
use Rattle.app_machine.specs.Heap.{Value, blank}
use Rattle.played_machine.specs.Drawing.{one_of}
use Rattle.runner_heap.specs.Objects.{heap_of}
use Rattle.runner_heap.specs.Shown.{value_behind}
use Rattle.runner_heap.proofs.Gotten.{got_none, got_element, got_field}
use Rattle.runner_heap.proofs.getting.got.Goals as goal
use Rattle.runner_state.specs.Shown.{value_of}

pub returns-in-None : goal.returns-in-None
returns-in-None c = got_none (heap_of c.args.heap.now) (value_of c.args.from) c.args.key c.args.script.left.now (value_of c.blank.result) c.in-None.is c.blank.ensures

pub returns-then-key-eq0 : goal.returns-then-key-eq0
returns-then-key-eq0 c =
    got_element (heap_of c.args.heap.now) (value_of c.args.from) c.args.key c.args.script.left.now c.in-Some.place (option_map value_behind c.drawn_element.result) c.in-Some.is (omega arith)
    (c.drawn_element.ensures ∙ ap (λ (vs : List Value). one_of (vs ++ blank ∷ []) c.args.script.left.now) c.elements.ensures)

pub returns-else-key-eq0 : goal.returns-else-key-eq0
returns-else-key-eq0 c =
    got_field (heap_of c.args.heap.now) (value_of c.args.from) c.args.key c.args.script.left.now c.in-Some.place (value_of c.field.result) c.in-Some.is (λ e. absurd (omega (arith, e))) c.field.ensures
