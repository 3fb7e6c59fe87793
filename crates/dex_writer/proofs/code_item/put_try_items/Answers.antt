use Rattle.std.proofs.Common.{◌≡◌, length, take, refl, rules}
use Rattle.std.specs.List.{flat_map}
use Rattle.dex_writer.specs.CodeItem.{handler_bytes, try_bytes}
use Rattle.dex_writer.proofs.PlacedLemmas.{part_step, row_step, next_place}
use Rattle.dex_writer.proofs.code_item.put_try_items.Goals as goal

pub loop-item-preserved : goal.loop-item-preserved
loop-item-preserved c =
    let at = length c.args.handlers.now.items in
    let size : c.len.result ≡ length c.loop-item.handlers.items = search rules in
    let here = next_place at c.len.result (flat_map handler_bytes (take c.loop-item.item-index c.args.tries.now)) c.args.handlers.now.items c.loop-item.handlers.items refl c.loop-item.invariant.handlers size in
    record {
      handlers = part_step handler_bytes c.loop-item.item-index c.args.tries.now c.item-item.result _ _ _ c.loop-item-test.true c.item-item.is c.loop-item.invariant.handlers c.in_ok-put_handler.ensures;
      items = row_step handler_bytes try_bytes at c.loop-item.item-index c.len.result c.args.tries.now c.item-item.result _ _ _ c.loop-item-test.true c.item-item.is here c.loop-item.invariant.items c.in_ok-put_try.ensures;
    }
