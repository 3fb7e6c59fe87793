use Rattle.std.proofs.Common.{refl, arith}
use Rattle.runner_heap.specs.Objects.{heap_of}
use Rattle.runner_library.proofs.Added.{copies_all, copies_more}
use Rattle.runner_library.proofs.adding.add_copies.Goals as goal

pub loop-added-init : goal.loop-added-init
loop-added-init c = refl

pub loop-added-preserved : goal.loop-added-preserved
loop-added-preserved c =
    copies_more c.args.all.now (heap_of c.args.heap.now) (heap_of c.loop-added.heap) (heap_of c.add_element.new.self) c.loop-added.added-index _ c.loop-added-test.true c.in_ok-add_element.ensures.ok c.loop-added.invariant

pub returns : goal.returns
returns c = copies_all c.args.all.now (heap_of c.args.heap.now) (heap_of c.loop-added.heap) c.loop-added.added-index (omega arith) c.loop-added.invariant
