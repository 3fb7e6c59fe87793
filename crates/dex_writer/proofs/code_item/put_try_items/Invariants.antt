use Rattle.std.proofs.Common.{◌≡◌, ◌++◌, take, length}
use Rattle.std.specs.List.{flat_map}
use Rattle.dex_writer.specs.CodeItem.{handler_bytes, try_bytes}
use Rattle.dex_writer.specs.Placed.{rows_of}
use Rattle.dex_writer.proofs.code_item.put_try_items.Given as goal

abbrev pub invariant-loop-item : goal.invariant-loop-item
invariant-loop-item l = record {
  handlers : l.handlers.items ≡ l.fn.handlers.items ++ flat_map handler_bytes (take l.item-index l.tries);
  items : l.items.items ≡ l.fn.items.items ++ rows_of try_bytes handler_bytes (length l.fn.handlers.items) (take l.item-index l.tries);
}
