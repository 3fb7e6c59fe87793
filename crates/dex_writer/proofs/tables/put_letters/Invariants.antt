use Rattle.std.proofs.Common.{◌≡◌, ◌++◌, take}
use Rattle.std.specs.List.{flat_map}
use Rattle.dex_writer.specs.Tables.{letter}
use Rattle.dex_writer.proofs.tables.put_letters.Given as goal

abbrev pub invariant-loop-kind : goal.invariant-loop-kind
invariant-loop-kind l = l.letters.items ≡ l.fn.letters.items ++ flat_map letter (take l.kind-index l.kinds)
