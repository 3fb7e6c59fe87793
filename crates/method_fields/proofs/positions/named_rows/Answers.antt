use Rattle.std.proofs.Common.{rules, map}
use Rattle.toml.specs.View.{view}
use Rattle.vet_base.specs.Script.{run, Fails}
use Rattle.method_fields.specs.Positions.{named_rows}
use Rattle.form_fields.proofs.Walking.{fails}
use Rattle.method_fields.proofs.positions.named_rows.Goals as goal

pub returns-in_err-pair : goal.returns-in_err-pair
returns-in_err-pair c =
    let stopped : Fails c.in_err-pair.field-0.0 (run (named_rows c.args.section c.args.key c.args.count c.args.names.now (map view c.args.items.now))) =
    fails _ _ _ _ _ _ _ _ _ c.loop-value-test.true c.value-item.is c.in_err-pair.ensures.value c.loop-value.invariant in
    search rules
