use Rattle.std.proofs.Common.{map, refl, arith}
use Rattle.played_machine.specs.Librarian.{element_at}
use Rattle.runner_heap.specs.Objects.{heap_of}
use Rattle.runner_library.proofs.Added.{all_added, one_added, store_adds, store_one}
use Rattle.runner_library.proofs.adding.add_stores.Goals as goal
use Rattle.runner_state.specs.Shown.{held_at, value_of}

pub loop-store-init : goal.loop-store-init
loop-store-init c = refl

pub loop-store-preserved : goal.loop-store-preserved
loop-store-preserved c =
    one_added (store_adds c.args.app.now (map value_of c.args.values.now) (held_at c.args.statics.now)) c.args.stores.now (heap_of c.args.heap.now) (heap_of c.loop-store.heap) (heap_of c.add_element.new.heap) c.loop-store.store-index _
    (element_at (value_of c.get-target.result).place (value_of c.value_at-value.result)) c.loop-store-test.true c.in_ok-add_element.ensures
    (store_one c.args.app.now (map value_of c.args.values.now) (held_at c.args.statics.now) c.shared_static-number.result _ _ (value_of c.get-target.result) (value_of c.value_at-value.result) c.shared_static-number.ensures c.get-target.ensures c.value_at-value.ensures)
    c.loop-store.invariant

pub returns : goal.returns
returns c =
    all_added (store_adds c.args.app.now (map value_of c.args.values.now) (held_at c.args.statics.now)) c.args.stores.now (heap_of c.args.heap.now) (heap_of c.loop-store.heap) c.loop-store.store-index (omega arith) c.loop-store.invariant
