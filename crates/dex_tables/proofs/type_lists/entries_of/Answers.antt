use Rattle.vet_base.specs.Script.{run, Fails}
use Rattle.vet_base.proofs.Repeats.{repeat_begins, repeat_goes_on, repeat_fails, repeat_is_done}
use Rattle.dex_tables.specs.TypeLists.{entries_at}
use Rattle.std.proofs.Common.{rules}
use Rattle.dex_tables.proofs.type_lists.entries_of.Goals as goal

pub loop-init : goal.loop-init
unfolding entries_at
loop-init c = rw c.in_ok-entries.ensures.items (repeat_begins _ _ _)

pub returns-in_err-index : goal.returns-in_err-index
returns-in_err-index c =
    let stopped : Fails c.in_err-index.field-0.0 (run (entries_at c.args.file.now c.args.types c.args.list.table c.args.list.row c.args.list.at c.args.size c.args.begin)) =
    repeat_fails _ _ _ _ _ _ _ c.loop-test.true c.in_err-index.ensures c.loop.invariant in
    search rules

pub loop-preserved : goal.loop-preserved
loop-preserved c = rw c.in_ok-push.ensures.items (repeat_goes_on _ _ _ _ _ _ _ _ c.loop-test.true c.in_ok-index.ensures c.loop.invariant)

pub returns : goal.returns
returns c = rw c.from_vec.ensures (repeat_is_done _ _ _ _ _ _ c.loop-test.false c.loop.invariant)
