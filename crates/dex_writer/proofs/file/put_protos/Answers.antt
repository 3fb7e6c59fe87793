use Rattle.std.proofs.Common.{◌≡◌, ◌+◌, length, take, arith, ap, length-append}
use Rattle.std.specs.List.{flat_map}
use Rattle.dex_writer.specs.File.{params_bytes, proto_row_bytes}
use Rattle.dex_writer.proofs.PlacedLemmas.{part_step, row_step}
use Rattle.dex_writer.proofs.file.put_protos.Goals as goal

pub loop-row-preserved : goal.loop-row-preserved
loop-row-preserved c =
    let at = c.args.base + length c.args.data.now.items in
    let here = c.args.base + length c.loop-row.data.items in
    let so_far = flat_map params_bytes (take c.loop-row.row-index c.args.protos.now) in
    let here-is : here ≡ at + length so_far = omega (arith, ap length c.loop-row.invariant.data_so_far, length-append c.args.data.now.items so_far) in
    record {
      data_so_far = part_step params_bytes c.loop-row.row-index c.args.protos.now c.row-item.result _ _ _ c.loop-row-test.true c.row-item.is c.loop-row.invariant.data_so_far c.in_ok-put_proto.ensures.data;
      rows_so_far = row_step params_bytes proto_row_bytes at c.loop-row.row-index here c.args.protos.now c.row-item.result _ _ _ c.loop-row-test.true c.row-item.is here-is c.loop-row.invariant.rows_so_far c.in_ok-put_proto.ensures.rows;
    }
