use Rattle.std.proofs.Common.{◌≡◌, ◌++◌, take}
use Rattle.std.specs.List.{flat_map}
use Rattle.dex_writer.specs.File.{member_row_bytes}
use Rattle.dex_writer.proofs.file.put_member_rows.Given as goal

abbrev pub invariant-loop-row : goal.invariant-loop-row
invariant-loop-row l = l.out.items ≡ l.fn.out.items ++ flat_map member_row_bytes (take l.row-index l.rows)
