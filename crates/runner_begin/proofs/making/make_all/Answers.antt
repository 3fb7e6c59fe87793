use Rattle.std.proofs.Common.{arith}
use Rattle.runner_begin.proofs.Made.{all_made, none_made, one_made}
use Rattle.runner_begin.proofs.making.make_all.Goals as goal
use Rattle.runner_heap.specs.Objects.{heap_of}

pub loop-one-init : goal.loop-one-init
loop-one-init c = none_made (heap_of c.args.heap.now) c.args.fresh.now

pub loop-one-preserved : goal.loop-one-preserved
loop-one-preserved c = one_made (heap_of c.args.heap.now) c.args.fresh.now (heap_of c.loop-one.heap) (heap_of c.make.new.heap) c.loop-one.one-index c.one-item.result c.loop-one-test.true c.one-item.is c.in_ok-make.ensures c.loop-one.invariant

pub returns : goal.returns
returns c = all_made (heap_of c.args.heap.now) c.args.fresh.now (heap_of c.loop-one.heap) c.loop-one.one-index (omega arith) c.loop-one.invariant
