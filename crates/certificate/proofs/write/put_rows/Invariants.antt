use Rattle.std.proofs.Common.{◌≡◌, ◌++◌, take}
use Rattle.std.specs.List.{All, flat_map}
use Rattle.cert_rows.specs.Fitting.{RowIsSmall}
use Rattle.cert_rows.specs.Spelling.{row_bytes}
use Rattle.certificate.proofs.write.put_rows.Given as goal

abbrev pub invariant-loop-row : goal.invariant-loop-row
invariant-loop-row l = record {
  bytes : l.out.items ≡ l.fn.out.items ++ flat_map row_bytes (take l.row-index l.rows);
  small : All RowIsSmall (take l.row-index l.rows);
}
