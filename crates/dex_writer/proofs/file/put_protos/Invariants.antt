use Rattle.std.proofs.Common.{◌≡◌, ◌++◌, ◌+◌, take, length}
use Rattle.std.specs.List.{flat_map}
use Rattle.dex_writer.specs.File.{proto_row_bytes, params_bytes}
use Rattle.dex_writer.specs.Placed.{rows_of}
use Rattle.dex_writer.proofs.file.put_protos.Given as goal

abbrev pub invariant-loop-row : goal.invariant-loop-row
invariant-loop-row l = record {
  data_so_far : l.data.items ≡ l.fn.data.items ++ flat_map params_bytes (take l.row-index l.protos);
  rows_so_far : l.rows.items ≡ l.fn.rows.items ++ rows_of proto_row_bytes params_bytes (l.base + length l.fn.data.items) (take l.row-index l.protos);
}
