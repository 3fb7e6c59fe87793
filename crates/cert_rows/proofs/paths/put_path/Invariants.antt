use Rattle.std.proofs.Common.{◌≡◌, ◌++◌}
use Rattle.access_path.specs.Order.{numbers_of_path}
use Rattle.access_path.specs.PathKeys.{keys_left}
use Rattle.cert_rows.specs.Spelling.{tagged, keys_bytes}
use Rattle.cert_rows.proofs.paths.put_path.Given as goal

abbrev pub invariant-loop-key : goal.invariant-loop-key
invariant-loop-key l = l.out.items ++ keys_bytes (keys_left l.key-iterator) ≡ l.fn.out.items ++ tagged (numbers_of_path l.fn.path)
