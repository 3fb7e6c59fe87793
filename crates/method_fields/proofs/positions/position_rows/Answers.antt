use Rattle.std.proofs.Common.{rules, map}
use Rattle.toml.specs.View.{view}
use Rattle.vet_base.specs.Script.{run, Fails}
use Rattle.method_fields.specs.Positions.{position_rows}
use Rattle.form_fields.proofs.Walking.{fails, goes_on}
use Rattle.method_fields.proofs.positions.position_rows.Goals as goal

pub returns-in_err-position : goal.returns-in_err-position
returns-in_err-position c =
    let stopped : Fails c.in_err-position.field-0.0 (run (position_rows c.args.section c.args.key c.args.count (map view c.args.items.now))) =
    fails _ _ _ _ _ _ _ _ _ c.loop-value-test.true c.value-item.is c.in_err-position.ensures c.loop-value.invariant in
    search rules

pub loop-value-preserved : goal.loop-value-preserved
loop-value-preserved c = rw c.in_ok-push.ensures.items (goes_on _ _ _ _ _ _ _ _ _ _ c.loop-value-test.true c.value-item.is c.in_ok-position.ensures c.loop-value.invariant)
