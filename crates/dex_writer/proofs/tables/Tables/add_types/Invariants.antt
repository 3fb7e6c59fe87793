use Rattle.std.proofs.Common.{◌≡◌, drop}
use Rattle.dex_writer.specs.Tables.{with_types}
use Rattle.dex_writer.proofs.tables.Tables.add_types.Given as goal

abbrev pub invariant-loop-name : goal.invariant-loop-name
invariant-loop-name l = with_types l.self (drop l.name-index l.names) ≡ with_types l.fn.self l.names
