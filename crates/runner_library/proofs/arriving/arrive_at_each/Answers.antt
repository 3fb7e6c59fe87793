use Rattle.std.proofs.Common.{map, arith}
use Rattle.runner_heap.specs.Objects.{heap_of}
use Rattle.runner_library.proofs.Labelled.{all_come, none_come, one_come}
use Rattle.runner_library.proofs.arriving.arrive_at_each.Goals as goal
use Rattle.runner_state.specs.Shown.{value_of}

pub loop-position-init : goal.loop-position-init
loop-position-init c = none_come (heap_of c.args.heap.now) (map value_of c.args.values.now) c.args.sink c.args.positions.now c.args.arrivals.now.items

pub loop-position-preserved : goal.loop-position-preserved
loop-position-preserved c =
    one_come (heap_of c.args.heap.now) (map value_of c.args.values.now) c.args.sink c.args.positions.now c.args.arrivals.now.items c.loop-position.arrivals.items c.add_arrivals.new.arrivals.items c.loop-position.position-index c.in_ok-labels.labels (value_of c.value_at.result)
    c.loop-position-test.true c.in_ok-labels.ensures c.value_at.ensures c.in_ok-add_arrivals.ensures c.loop-position.invariant

pub returns : goal.returns
returns c =
    all_come (heap_of c.args.heap.now) (map value_of c.args.values.now) c.args.sink c.args.positions.now c.args.arrivals.now.items c.loop-position.arrivals.items c.loop-position.position-index (omega arith) c.loop-position.invariant
