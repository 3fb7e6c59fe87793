use Rattle.std.proofs.Common.{refl, arith}
use Rattle.runner_heap.specs.Objects.{heap_of}
use Rattle.runner_library.proofs.Made.{all_made, one_made}
use Rattle.runner_library.proofs.sharing.make_named.Goals as goal
use Rattle.runner_state.specs.Shown.{held_at}

pub loop-store-init : goal.loop-store-init
loop-store-init c = refl

pub loop-store-preserved : goal.loop-store-preserved
loop-store-preserved c =
    one_made c.args.app.now c.args.lists.now c.args.stores.now (heap_of c.args.heap.now) (held_at c.args.statics.now) (heap_of c.loop-store.heap, held_at c.loop-store.statics) (heap_of c.make_shared.new.heap, held_at c.make_shared.new.statics)
    c.loop-store.store-index _ c.loop-store-test.true c.in_ok-make_shared.ensures c.loop-store.invariant

pub returns : goal.returns
returns c = all_made c.args.app.now c.args.lists.now c.args.stores.now (heap_of c.args.heap.now) (held_at c.args.statics.now) (heap_of c.loop-store.heap, held_at c.loop-store.statics) c.loop-store.store-index (omega arith) c.loop-store.invariant
