use Rattle.vet_base.specs.Script.{run, Fails}
use Rattle.vet_base.proofs.Scripts.{begins, goes_on, ends, is_done}
use Rattle.dex_reader.specs.ClassDefs.{class_rows_at}
use Rattle.std.proofs.Common.{rules}
use Rattle.dex_reader.proofs.class_defs.class_rows_of.Goals as goal

pub loop-row-init : goal.loop-row-init
unfolding class_rows_at
loop-row-init c = rw c.in_ok-rows.ensures.items (begins _ _ _)

pub returns-in_err-class : goal.returns-in_err-class
returns-in_err-class c =
    let stopped : Fails c.in_err-class.field-0.0 (run (class_rows_at c.args.file.now c.args.types c.args.table c.args.total)) =
    ends _ _ _ _ _ _ _ c.loop-row-test.true c.in_err-class.ensures c.loop-row.invariant in
    search rules

pub loop-row-preserved : goal.loop-row-preserved
loop-row-preserved c = rw c.in_ok-push.ensures.items (goes_on _ _ _ _ _ _ _ _ c.loop-row-test.true c.in_ok-class.ensures c.loop-row.invariant)

pub returns : goal.returns
returns c = is_done _ _ _ _ _ _ c.loop-row-test.false c.loop-row.invariant
