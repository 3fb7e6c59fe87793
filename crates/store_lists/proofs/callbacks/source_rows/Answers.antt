use Rattle.std.proofs.Common.{rules, map}
use Rattle.toml.specs.View.{view}
use Rattle.vet_base.specs.Script.{run, Fails}
use Rattle.form_fields.specs.declared.words.Section.TheVariants as section
use Rattle.form_fields.specs.declared.words.Key.TheVariants as key
use Rattle.method_fields.specs.Positions.{named_rows}
use Rattle.form_fields.proofs.Walking.{fails, goes_on}
use Rattle.store_lists.proofs.callbacks.source_rows.Goals as goal

pub returns-in_err-source : goal.returns-in_err-source
returns-in_err-source c =
    let stopped : Fails c.in_err-source.field-0.0 (run (named_rows section.Callback key.Sources c.args.count c.args.categories.now (map view c.args.items.now))) =
    fails _ _ _ _ _ _ _ _ _ c.loop-value-test.true c.value-item.is c.in_err-source.ensures c.loop-value.invariant in
    search rules

pub loop-value-preserved : goal.loop-value-preserved
loop-value-preserved c = rw c.in_ok-push.ensures.items (goes_on _ _ _ _ _ _ _ _ _ _ c.loop-value-test.true c.value-item.is c.in_ok-source.ensures c.loop-value.invariant)
