use Rattle.std.proofs.Common.{◌≡◌, ◌++◌, ◌+◌, take, length}
use Rattle.std.specs.List.{flat_map}
use Rattle.dex_writer.specs.Bytes.{u4_bytes, string_item}
use Rattle.dex_writer.specs.Placed.{offsets_of}
use Rattle.dex_writer.proofs.file.put_strings.Given as goal

abbrev pub invariant-loop-name : goal.invariant-loop-name
invariant-loop-name l = record {
  data_so_far : l.data.items ≡ l.fn.data.items ++ flat_map string_item (take l.name-index l.strings);
  rows_so_far : l.rows.items ≡ l.fn.rows.items ++ flat_map u4_bytes (offsets_of string_item (l.base + length l.fn.data.items) (take l.name-index l.strings));
}
