use Rattle.std.proofs.Common.{rules, arith, ◌-◌}
use Rattle.app_index.proofs.Numbering.{one_more}
use Rattle.app_index.proofs.FieldKeys.{IsFieldKey, same_field}
use Rattle.app_index.specs.Numbers.{is_field_of}
use Rattle.app_index.specs.contracts.keys.FieldKeyPartialEq.TheImpl.{ghosts as key_eq}
use Rattle.app_index.proofs.numbers.number_statics.Goals as goal

pub loop-left-preserved : goal.loop-left-preserved
loop-left-preserved c =
    let row = c.index-rows-left.result in
    let key = c.field_key-key.result in
    let made = c.field_key-key.ensures in
    let is : IsFieldKey row.class row.name row.kind key = record { class = made.class; name = made.name; kind = made.kind } in
    (omega (arith, c.loop-left.invariant.0), one_more key_eq.eq is_field_of (c.loop-left.left - 1) c.loop-left.left row c.args.rows.now (omega (arith, c.loop-left.invariant.0, c.loop-left-test.true)) (search rules) (omega (arith, c.loop-left-test.true)) c.loop-left.numbers c.insert.new.self key (same_field row key is) c.in_ok-insert.ensures.updates c.loop-left.invariant.1)
