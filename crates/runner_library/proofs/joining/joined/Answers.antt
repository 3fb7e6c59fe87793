use Rattle.std.proofs.Common.{◌≡◌, map, length, arith}
use Rattle.std.proofs.lemmas.List.{length-map}
use Rattle.app_parts.specs.Views.{shown_summary}
use Rattle.runner_heap.specs.Objects.{heap_of}
use Rattle.runner_library.proofs.Joined.{from_all, from_more, from_source}
use Rattle.runner_library.proofs.joining.joined.Goals as goal
use Rattle.runner_state.specs.Shown.{value_of}

pub loop-position-init : goal.loop-position-init
loop-position-init c =
    from_source (heap_of c.args.heap.now) (map value_of c.args.values.now) (shown_summary c.args.view c.args.at.now c.args.is_static).gives (shown_summary c.args.view c.args.at.now c.args.is_static).source c.source_labels-labels.result
    (c.source_labels-labels.ensures c.args.at.now c.args.is_static)

pub loop-position-preserved : goal.loop-position-preserved
loop-position-preserved c =
    from_more (heap_of c.args.heap.now) (map value_of c.args.values.now) (shown_summary c.args.view c.args.at.now c.args.is_static).gives (shown_summary c.args.view c.args.at.now c.args.is_static).source c.loop-position.labels c.in_ok-labels.labels c.loop-position.position
    c.is_joined_from-joins.result (value_of c.value_at.result) c.is_joined_from-joins.ensures c.value_at.ensures c.in_ok-labels.ensures c.loop-position.invariant

pub returns : goal.returns
returns c from is =
    let many : length (map value_of c.args.values.now) ≡ length c.args.values.now = length-map c.args.values.now value_of in
    from_all (heap_of c.args.heap.now) (map value_of c.args.values.now) (shown_summary c.args.view c.args.at.now c.args.is_static).gives (shown_summary c.args.view c.args.at.now c.args.is_static).source c.loop-position.labels from c.loop-position.position is
    (omega (arith, many)) c.loop-position.invariant
