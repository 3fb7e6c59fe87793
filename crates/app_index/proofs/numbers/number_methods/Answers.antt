use Rattle.std.proofs.Common.{rules, arith, ◌-◌}
use Rattle.app_index.proofs.Numbering.{one_more}
use Rattle.app_index.proofs.RowKeys.{IsKeyOf, same_method}
use Rattle.app_index.specs.Numbers.{is_row_of}
use Rattle.app_index.specs.contracts.keys.MethodKeyPartialEq.TheImpl.{ghosts as key_eq}
use Rattle.app_index.proofs.numbers.number_methods.Goals as goal

pub loop-left-preserved : goal.loop-left-preserved
loop-left-preserved c =
    let row = c.index-rows-left.result in
    let key = c.method_key-key.result in
    let made = c.method_key-key.ensures in
    let is : IsKeyOf row.class row.name row.proto row.is_static key = record { class = made.class; name = made.name; params = made.params; ret = made.ret; is_static = made.is_static } in
    (omega (arith, c.loop-left.invariant.0), one_more key_eq.eq is_row_of (c.loop-left.left - 1) c.loop-left.left row c.args.rows.now (omega (arith, c.loop-left.invariant.0, c.loop-left-test.true)) (search rules) (omega (arith, c.loop-left-test.true)) c.loop-left.numbers c.insert.new.self key (same_method row key is) c.in_ok-insert.ensures.updates c.loop-left.invariant.1)
