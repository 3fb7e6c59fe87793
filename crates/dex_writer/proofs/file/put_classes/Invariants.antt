use Rattle.std.proofs.Common.{◌≡◌, ◌++◌, ◌+◌, take, length}
use Rattle.dex_writer.specs.ClassData.{placed_row, class_bytes}
use Rattle.dex_writer.specs.Placed.{pieces, placed_rows}
use Rattle.dex_writer.proofs.file.put_classes.Given as goal

abbrev pub invariant-loop-class : goal.invariant-loop-class
invariant-loop-class l = record {
  data_so_far : l.data.items ≡ l.fn.data.items ++ pieces class_bytes (l.base + length l.fn.data.items) (take l.class-index l.classes);
  rows_so_far : l.rows.items ≡ l.fn.rows.items ++ placed_rows placed_row class_bytes (l.base + length l.fn.data.items) (take l.class-index l.classes);
}
