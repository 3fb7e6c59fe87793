use Rattle.std.proofs.Common.{◌+◌, length}
use Rattle.runner_begin.specs.Parameters.{planned_in, values_with}
use Rattle.runner_begin.proofs.Picked.{count_values}
use Rattle.runner_begin.proofs.picking.chosen.Goals as goal
use Rattle.runner_calls.proofs.Raising.{one_none, one_some}
use Rattle.runner_state.specs.Shown.{labels_of, value_of}

pub returns-in-None : goal.returns-in-None
returns-in-None c = λ heap long.
    one_none (values_with c.args.places.now (labels_of c.args.labels) c.args.kind.now (planned_in heap c.args.fresh.now.items)) (length c.args.places.now + 2) c.args.script.left.now
    (count_values c.args.places.now (labels_of c.args.labels) c.args.kind.now (planned_in heap c.args.fresh.now.items)) c.in-None.ensures.drawn

pub returns-in_ok-value-in-Some : goal.returns-in_ok-value-in-Some
returns-in_ok-value-in-Some c = λ heap long.
    one_some (values_with c.args.places.now (labels_of c.args.labels) c.args.kind.now (planned_in heap c.args.fresh.now.items)) (length c.args.places.now + 2) c.args.script.left.now
    (count_values c.args.places.now (labels_of c.args.labels) c.args.kind.now (planned_in heap c.args.fresh.now.items)) c.in-Some.i c.in-Some.left.left.now (value_of c.in_ok-value-in-Some.value, planned_in heap c.picked.new.fresh.items) c.in-Some.ensures.drawn (c.in_ok-value-in-Some.ensures heap long)
