use Rattle.std.proofs.Common.{◌≡◌, ◌+◌, length, take, arith, ap, length-append}
use Rattle.dex_writer.specs.ClassData.{class_bytes, placed_row}
use Rattle.dex_writer.specs.Placed.{pieces}
use Rattle.dex_writer.proofs.PlacedLemmas.{piece_step, placed_step}
use Rattle.dex_writer.proofs.file.put_classes.Goals as goal

pub loop-class-preserved : goal.loop-class-preserved
loop-class-preserved c =
    let at = c.args.base + length c.args.data.now.items in
    let here = c.args.base + length c.loop-class.data.items in
    let so_far = pieces class_bytes at (take c.loop-class.class-index c.args.classes.now) in
    let here-is : here ≡ at + length so_far = omega (arith, ap length c.loop-class.invariant.data_so_far, length-append c.args.data.now.items so_far) in
    record {
      data_so_far = piece_step class_bytes at c.loop-class.class-index here c.args.classes.now c.class-item.result _ _ _ c.loop-class-test.true c.class-item.is here-is c.loop-class.invariant.data_so_far c.in_ok-put_class.ensures.data;
      rows_so_far = placed_step class_bytes placed_row at c.loop-class.class-index here c.args.classes.now c.class-item.result _ _ _ c.loop-class-test.true c.class-item.is here-is c.loop-class.invariant.rows_so_far c.in_ok-put_class.ensures.rows;
    }
