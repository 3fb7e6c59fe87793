use Rattle.std.proofs.Common.{◌≡◌, ◌+◌, length, take, rules, arith, ap, length-append}
use Rattle.std.specs.List.{flat_map}
use Rattle.dex_writer.specs.Bytes.{string_item}
use Rattle.dex_writer.proofs.PlacedLemmas.{part_step, offset_step}
use Rattle.dex_writer.proofs.file.put_strings.Goals as goal

pub loop-name-preserved : goal.loop-name-preserved
loop-name-preserved c =
    let at = c.args.base + length c.args.data.now.items in
    let size : c.len.result ≡ length c.loop-name.data.items = search rules in
    let here = c.args.base + c.len.result in
    let so_far = flat_map string_item (take c.loop-name.name-index c.args.strings.now) in
    let here-is : here ≡ at + length so_far = omega (arith, size, ap length c.loop-name.invariant.data_so_far, length-append c.args.data.now.items so_far) in
    record {
      data_so_far = part_step string_item c.loop-name.name-index c.args.strings.now c.name-item.result _ _ _ c.loop-name-test.true c.name-item.is c.loop-name.invariant.data_so_far c.in_ok-put_string.ensures;
      rows_so_far = offset_step string_item at c.loop-name.name-index here c.args.strings.now c.name-item.result _ _ _ c.loop-name-test.true c.name-item.is here-is c.loop-name.invariant.rows_so_far c.in_ok-put_u4.ensures;
    }
