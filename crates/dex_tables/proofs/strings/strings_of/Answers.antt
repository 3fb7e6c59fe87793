use Rattle.vet_base.specs.Script.{run, Fails}
use Rattle.vet_base.proofs.Repeats.{repeat_begins, repeat_goes_on, repeat_fails, repeat_is_done}
use Rattle.dex_tables.specs.Tables.{strings_at}
use Rattle.std.proofs.Common.{rules}
use Rattle.dex_tables.proofs.strings.strings_of.Goals as goal

pub loop-init : goal.loop-init
unfolding strings_at
loop-init c = rw c.in_ok-names.ensures.items (repeat_begins _ _ _)

pub returns-in_err-name : goal.returns-in_err-name
returns-in_err-name c =
    let stopped : Fails c.in_err-name.field-0.0 (run (strings_at c.args.file.now c.args.table)) =
    repeat_fails _ _ _ _ _ _ _ c.loop-test.true c.in_err-name.ensures c.loop.invariant in
    search rules

pub loop-preserved : goal.loop-preserved
loop-preserved c = rw c.in_ok-push.ensures.items (repeat_goes_on _ _ _ _ _ _ _ _ c.loop-test.true c.in_ok-name.ensures c.loop.invariant)

pub returns : goal.returns
returns c = rw c.from_vec.ensures (repeat_is_done _ _ _ _ _ _ c.loop-test.false c.loop.invariant)
