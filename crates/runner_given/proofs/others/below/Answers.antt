use Rattle.std.proofs.Common.{arith}
use Rattle.std.proofs.lemmas.Option.{slice_get-get_or}
use Rattle.played_growth.specs.Growth.{classes_of}
use Rattle.runner_given.proofs.Had.{all_found, one_found}
use Rattle.runner_given.proofs.others.below.Goals as goal
use Rattle.runner_heap.specs.Objects.{heap_of}

pub loop-place-init : goal.loop-place-init
loop-place-init c = c.new-found.ensures.items

pub loop-place-preserved : goal.loop-place-preserved
loop-place-preserved c =
    one_found c.args.index.now.0 c.args.index.now.1 (classes_of (heap_of c.args.heap.now)) c.args.kind.now c.args.places.now c.loop-place.place-index _ c.loop-place.found.items c.add_if.new.found.items
    (slice_get-get_or c.args.places.now c.loop-place.place-index 0 c.loop-place-test.true) c.in_ok-add_if.ensures c.loop-place.invariant

pub returns : goal.returns
returns c = all_found c.args.index.now.0 c.args.index.now.1 (classes_of (heap_of c.args.heap.now)) c.args.kind.now c.args.places.now c.loop-place.place-index c.loop-place.found.items (omega arith) c.loop-place.invariant
