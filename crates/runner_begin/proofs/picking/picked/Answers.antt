use Rattle.std.proofs.Common.{◌+◌, ◌-◌, ◌∙◌, length, refl, sym, ap, arith}
use Rattle.std.proofs.lemmas.Option.{slice_get-get_or}
use Rattle.runner_begin.specs.Parameters.{planned_in, value_at}
use Rattle.runner_begin.proofs.Picked.{picks_blank, picks_fresh, picks_place, planned_long}
use Rattle.runner_begin.proofs.picking.picked.Goals as goal
use Rattle.runner_state.specs.Shown.{labels_of, value_of}

pub returns-then-index-eq0 : goal.returns-then-index-eq0
returns-then-index-eq0 c = λ heap long. picks_blank c.args.places.now (labels_of c.args.labels) c.args.kind.now (planned_in heap c.args.fresh.now.items) c.args.index (value_of c.labelled.result) (omega arith) c.labelled.ensures

pub returns-then-index-gt1 : goal.returns-then-index-gt1
returns-then-index-gt1 c = λ heap long. picks_place c.args.places.now (labels_of c.args.labels) c.args.kind.now (planned_in heap c.args.fresh.now.items) c.args.index _ _ (omega arith) (slice_get-get_or c.args.places.now (c.args.index - 2) 0 (omega arith)) refl

pub returns : goal.returns
returns c = λ heap long.
    picks_fresh c.args.places.now (labels_of c.args.labels) c.args.kind.now (planned_in heap c.args.fresh.now.items) c.args.index (value_of c.in_ok-value.value) (planned_in heap c.plan.new.fresh.items) (omega arith)
    (c.in_ok-value.ensures.value ∙ ap (λ p. value_at p (labels_of c.args.labels)) (ap (λ n. n + length c.args.fresh.now.items) (sym long) ∙ sym (planned_long heap c.args.fresh.now.items)))
    (c.in_ok-value.ensures.planned heap)
