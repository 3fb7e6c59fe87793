use Rattle.std.proofs.Common.{List, map, reverse, sym, ap, ◌∙◌}
use Rattle.played_machine.proofs.Ordered.{false_true}
use Rattle.runner_begin.proofs.Made.{with_labels, without_labels}
use Rattle.runner_begin.proofs.making.elements_of.Goals as goal
use Rattle.runner_heap.specs.Shown.{element_of}
use Rattle.runner_state.specs.declared.value.Held.{Held}
use Rattle.runner_state.specs.Shown.{labels_of}

pub returns-then-is_none : goal.returns-then-is_none
returns-then-is_none c =
    ap (λ (es : List Held). map element_of (reverse es)) c.new-elements.ensures.items ∙ without_labels (labels_of c.args.labels) (c.is_none.ensures.0 c.if-is_none.true)

pub returns : goal.returns
returns c =
    with_labels (labels_of c.args.labels) c.new-elements.result.items c.push.new.self.items c.labelled.result c.new-elements.ensures.items c.in_ok-push.ensures.items c.labelled.ensures (λ none. false_true (sym c.if-is_none.false ∙ c.is_none.ensures.1 none))
