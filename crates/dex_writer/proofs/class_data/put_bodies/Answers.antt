use Rattle.std.proofs.Common.{◌≡◌, ◌+◌, ◌++◌, length, rules, arith, length-append, ap}
use Rattle.dex_writer.specs.ClassData.{body_code}
use Rattle.dex_writer.proofs.PlacedLemmas.{part_step}
use Rattle.dex_writer.proofs.ClassLemmas.{body_step, bodies_done}
use Rattle.dex_writer.proofs.class_data.put_bodies.Goals as goal

pub loop-body-preserved : goal.loop-body-preserved
loop-body-preserved c =
    let here = c.args.base + length c.loop-body.data.items in
    let grown : c.put_body_code.new.data.items ≡ c.loop-body.data.items ++ body_code c.body-item.result = search rules in
    let next : c.args.base + length c.put_body_code.new.data.items ≡ here + length (body_code c.body-item.result) = omega (arith, ap length grown, length-append c.loop-body.data.items (body_code c.body-item.result)) in
    record {
      data_so_far = part_step body_code c.loop-body.body-index c.args.bodies.now c.body-item.result _ _ _ c.loop-body-test.true c.body-item.is c.loop-body.invariant.data_so_far grown;
      rows_to_come = body_step c.args.bodies.now c.loop-body.body-index c.loop-body.before here _ c.in_ok-place.place c.body-item.result _ _ _ c.loop-body-test.true c.body-item.is c.in_ok-place.ensures.place next c.loop-body.invariant.rows_to_come c.in_ok-put_body_row.ensures;
    }

pub returns-clause-rows : goal.returns-clause-rows
returns-clause-rows c = bodies_done c.args.bodies.now c.loop-body.body-index c.loop-body.before _ _ _ c.loop-body-test.false c.loop-body.invariant.rows_to_come
