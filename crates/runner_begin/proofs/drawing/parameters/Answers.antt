use Rattle.std.proofs.Common.{Option, map, reverse, sym, ap, ◌∙◌, arith}
use Rattle.std.specs.Prelude.{option_map}
use Rattle.std.proofs.lemmas.List.{map_push}
use Rattle.runner_begin.specs.Parameters.{labels_by, one_behind, planned_in}
use Rattle.runner_begin.proofs.Values.{all_drawn, none_drawn, one_drawn, too_few}
use Rattle.runner_begin.proofs.drawing.parameters.Goals as goal
use Rattle.runner_heap.specs.Objects.{heap_of}
use Rattle.runner_state.specs.declared.script.Script.{Script}
use Rattle.runner_state.specs.declared.value.Held.{Held}
use Rattle.runner_state.specs.Shown.{labels_of, value_of}

pub loop-i-init : goal.loop-i-init
loop-i-init c = record {
  fits = c.requires.fits;
  drawn = none_drawn c.args.index.now.0 c.args.index.now.1 (reverse c.args.world.now.handed) (labels_by c.args.sources.now) c.args.kinds.now (planned_in (heap_of c.args.world.now.heap) c.args.first.now) c.args.script.left.now
      (map value_of c.new-values.result.items) (planned_in (heap_of c.args.world.now.heap) c.in_ok-fresh.fresh.items) (ap (map value_of) c.new-values.ensures.items) (ap (planned_in (heap_of c.args.world.now.heap)) c.in_ok-fresh.ensures.items);
}

pub loop-i-preserved : goal.loop-i-preserved
loop-i-preserved c = record {
  fits = c.in_ok-given.ensures.fits;
  drawn = one_drawn c.args.index.now.0 c.args.index.now.1 (reverse c.args.world.now.handed) (labels_by c.args.sources.now) c.args.kinds.now (planned_in (heap_of c.args.world.now.heap) c.args.first.now) c.args.script.left.now
      (map value_of c.loop-i.values.items) (map value_of c.push.new.self.items) (planned_in (heap_of c.args.world.now.heap) c.loop-i.fresh.items) (planned_in (heap_of c.args.world.now.heap) c.parameter.new.fresh.items) c.loop-i.left.left.now c.in-Some.rest.left.now
      c.loop-i.i c.index-kinds-i.result (labels_of c.labels_at-labels.result) (value_of c.in-Some.value) (omega arith) c.index-kinds-i.is c.labels_at-labels.ensures
      (sym c.in_ok-given.ensures.drawn ∙ ap (λ (o : Option (Held × Script)). option_map (one_behind (heap_of c.args.world.now.heap) c.parameter.new.fresh.items) o) c.in-Some.is)
      (ap (map value_of) c.in_ok-push-in-Some.ensures.items ∙ map_push value_of c.loop-i.values.items c.in-Some.value) c.loop-i.invariant.drawn;
}

pub returns-in-None-clause-drawn : goal.returns-in-None-clause-drawn
returns-in-None-clause-drawn c =
    too_few c.args.index.now.0 c.args.index.now.1 (reverse c.args.world.now.handed) (labels_by c.args.sources.now) c.args.kinds.now (planned_in (heap_of c.args.world.now.heap) c.args.first.now) c.args.script.left.now
    (map value_of c.loop-i.values.items) (planned_in (heap_of c.args.world.now.heap) c.loop-i.fresh.items) c.loop-i.left.left.now c.loop-i.i c.index-kinds-i.result (labels_of c.labels_at-labels.result) (omega arith) c.index-kinds-i.is c.labels_at-labels.ensures
    (sym c.in_ok-given.ensures.drawn ∙ ap (λ (o : Option (Held × Script)). option_map (one_behind (heap_of c.args.world.now.heap) c.parameter.new.fresh.items) o) c.in-None.is) c.loop-i.invariant.drawn

pub returns-clause-drawn : goal.returns-clause-drawn
returns-clause-drawn c =
    all_drawn c.args.index.now.0 c.args.index.now.1 (reverse c.args.world.now.handed) (labels_by c.args.sources.now) c.args.kinds.now (planned_in (heap_of c.args.world.now.heap) c.args.first.now) c.args.script.left.now
    (map value_of c.loop-i.values.items) (planned_in (heap_of c.args.world.now.heap) c.loop-i.fresh.items) c.loop-i.left.left.now c.loop-i.i (omega arith) c.loop-i.invariant.drawn
