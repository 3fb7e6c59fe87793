use Rattle.vet_base.specs.Script.{run, Fails}
use Rattle.vet_base.proofs.Repeats.{repeat_begins, repeat_goes_on, repeat_fails, repeat_is_done}
use Rattle.dex_bodies.specs.Tries.{try_rows_at}
use Rattle.std.proofs.Common.{rules}
use Rattle.dex_bodies.proofs.tries.try_items_of.Goals as goal

pub loop-init : goal.loop-init
unfolding try_rows_at
loop-init c = rw c.new-items.ensures.items (repeat_begins _ _ _)

pub returns-in_err-item : goal.returns-in_err-item
returns-in_err-item c =
    let stopped : Fails c.in_err-item.field-0.0 (run (try_rows_at c.args.file.now c.args.code c.args.count c.args.begin)) =
    repeat_fails _ _ _ _ _ _ _ c.loop-test.true c.in_err-item.ensures c.loop.invariant in
    search rules

pub loop-preserved : goal.loop-preserved
loop-preserved c = rw c.in_ok-push.ensures.items (repeat_goes_on _ _ _ _ _ _ _ _ c.loop-test.true c.in_ok-item.ensures c.loop.invariant)

pub returns : goal.returns
returns c = repeat_is_done _ _ _ _ _ _ c.loop-test.false c.loop.invariant
