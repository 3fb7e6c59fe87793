use Rattle.vet_base.specs.Script.{run, Fails}
use Rattle.vet_base.proofs.Scripts.{begins, goes_on, ends, is_done}
use Rattle.dex_tables.specs.Tables.{types_at}
use Rattle.std.proofs.Common.{rules}
use Rattle.dex_tables.proofs.ids.types_of.Goals as goal

pub loop-row-init : goal.loop-row-init
unfolding types_at
loop-row-init c = rw c.in_ok-types.ensures.items (begins _ _ _)

pub returns-in_err-id : goal.returns-in_err-id
returns-in_err-id c =
    let stopped : Fails c.in_err-id.field-0.0 (run (types_at c.args.file.now c.args.sizes c.args.table)) =
    ends _ _ _ _ _ _ _ c.loop-row-test.true c.in_err-id.ensures c.loop-row.invariant in
    search rules

pub loop-row-preserved : goal.loop-row-preserved
loop-row-preserved c = rw c.in_ok-push.ensures.items (goes_on _ _ _ _ _ _ _ _ c.loop-row-test.true c.in_ok-id.ensures c.loop-row.invariant)

pub returns : goal.returns
returns c = rw c.from_vec.ensures (is_done _ _ _ _ _ _ c.loop-row-test.false c.loop-row.invariant)
