use Rattle.std.proofs.Common.{map, ap, arith}
use Rattle.played_machine.specs.Librarian.{copied}
use Rattle.runner_heap.specs.Objects.{heap_of}
use Rattle.runner_library.proofs.Added.{all_listed, copy_lists, copy_one, one_listed}
use Rattle.runner_library.proofs.adding.copied.Goals as goal
use Rattle.runner_library.specs.Over.{added_of}
use Rattle.runner_state.specs.Shown.{value_of}

pub loop-copy-init : goal.loop-copy-init
loop-copy-init c = ap (map added_of) c.new-all.ensures.items

pub loop-copy-preserved : goal.loop-copy-preserved
loop-copy-preserved c =
    one_listed added_of (copy_lists (heap_of c.args.heap.now) (map value_of c.args.values.now)) c.args.copies.now c.loop-copy.all.items c.copy_elements.new.all.items c.loop-copy.copy-index _
    (copied (heap_of c.args.heap.now) (value_of c.value_at-from.result).place (value_of c.value_at-to.result).place) c.loop-copy-test.true c.in_ok-copy_elements.ensures
    (copy_one (heap_of c.args.heap.now) (map value_of c.args.values.now) _ _ (value_of c.value_at-from.result) (value_of c.value_at-to.result) c.value_at-from.ensures c.value_at-to.ensures) c.loop-copy.invariant

pub returns : goal.returns
returns c =
    all_listed added_of (copy_lists (heap_of c.args.heap.now) (map value_of c.args.values.now)) c.args.copies.now c.loop-copy.all.items c.loop-copy.copy-index (omega arith) c.loop-copy.invariant
