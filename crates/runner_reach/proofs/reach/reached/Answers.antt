use Rattle.std.proofs.Common.{◌≡◌, ◌∷◌, ◌++◌, [], length, refl, ap, ◌∙◌, rules}
use Rattle.runner_heap.specs.Objects.{heap_of}
use Rattle.runner_reach.specs.Search.{has_met}
use Rattle.runner_reach.proofs.Meeting.{none_met, met_none, turn_searches, turn_is_met, turn_takes, labels_are}
use Rattle.runner_reach.proofs.Searching.{begins, found_all}
use Rattle.runner_reach.proofs.reach.reached.Goals as goal
use Rattle.runner_state.specs.Shown.{labels_of, value_of}

pub loop-value-init : goal.loop-value-init
loop-value-init c = record {
  searched = begins (heap_of c.args.heap.now) (value_of c.args.from) (labels_of c.none-labels.result) (has_met c.new-met.result) c.push.new.self.items c.args.from c.none-labels.ensures (none_met c.new-met.result c.new-met.ensures.empty) refl
      (c.in_ok-push.ensures.items ∙ ap (λ xs. xs ++ c.args.from ∷ []) c.new-waiting.ensures.items);
  is_met = met_none (length (heap_of c.args.heap.now)) c.new-met.result c.new-met.ensures.empty c.new-met.ensures.ordered;
}

pub add_object-requires : goal.add_object-requires
add_object-requires c = c.loop-value.invariant.is_met

pub loop-value-preserved : goal.loop-value-preserved
loop-value-preserved c = record {
  searched = turn_searches (heap_of c.args.heap.now) (value_of c.args.from) (labels_of c.loop-value.labels) (labels_of c.joined-labels.result) c.loop-value.met c.add_object.new.met c.loop-value.waiting.items c.pop.new.self.items c.add_object.new.waiting.items c.in-Some.value
      c.joined-labels.ensures c.in-Some.ensures.items c.loop-value.invariant.searched c.in_ok-add_object.ensures;
  is_met = turn_is_met (heap_of c.args.heap.now) (value_of c.in-Some.value) c.loop-value.met c.add_object.new.met c.pop.new.self.items c.add_object.new.waiting.items c.loop-value.invariant.is_met c.in_ok-add_object.ensures;
}

pub loop-value-smaller : goal.loop-value-smaller
loop-value-smaller c = turn_takes (heap_of c.args.heap.now) (value_of c.in-Some.value) c.loop-value.met c.add_object.new.met c.loop-value.waiting.items c.pop.new.self.items c.add_object.new.waiting.items c.in-Some.value c.in-Some.ensures.items c.loop-value.invariant.is_met c.in_ok-add_object.ensures

pub returns : goal.returns
returns c =
    let none : length c.loop-value.waiting.items ≡ 0 = search rules in
    labels_are (heap_of c.args.heap.now) (value_of c.args.from) c.loop-value.labels c.loop-value.invariant.searched.sound
    (found_all (heap_of c.args.heap.now) (value_of c.args.from) (labels_of c.loop-value.labels) (has_met c.loop-value.met) c.loop-value.waiting.items none c.loop-value.invariant.searched)
