use Rattle.std.proofs.Common.{◌+◌, ◌∷◌, ◌++◌, [], Some, map, length, sym, ap, ◌∙◌}
use Rattle.app_machine.specs.Heap.{blank}
use Rattle.runner_heap.proofs.Gotten.{one_none, one_some, value_here, longer_map, below_map}
use Rattle.runner_heap.proofs.getting.drawn_element.Goals as goal
use Rattle.runner_state.specs.Shown.{value_of}

pub returns-in-None : goal.returns-in-None
returns-in-None c = one_none (map value_of c.args.elements.now ++ blank ∷ []) (length c.args.elements.now + 1) c.args.script.left.now (longer_map c.args.elements.now) c.in-None.ensures.drawn

pub returns-in-Some : goal.returns-in-Some
returns-in-Some c =
    one_some (map value_of c.args.elements.now ++ blank ∷ []) (length c.args.elements.now + 1) c.args.script.left.now (longer_map c.args.elements.now) c.in-Some.i c.in-Some.left.left.now (value_of c.element_or_blank.result)
    c.in-Some.ensures.drawn (value_here (map value_of c.args.elements.now) c.in-Some.i (below_map c.args.elements.now c.in-Some.i c.in-Some.ensures.below) ∙ ap (λ v. Some v) (sym c.element_or_blank.ensures))
