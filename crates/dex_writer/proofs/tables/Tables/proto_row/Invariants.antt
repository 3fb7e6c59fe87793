use Rattle.std.proofs.Common.{◌≡◌, ◌∷◌, take, map}
use Rattle.dex_writer.specs.Tables.{string_index, type_index, shorty}
use Rattle.dex_writer.proofs.tables.Tables.proto_row.Given as goal

abbrev pub invariant-loop-kind : goal.invariant-loop-kind
invariant-loop-kind l = l.numbers.items ≡ string_index l.self (shorty l.params l.ret) ∷ type_index l.self l.ret ∷ map (type_index l.self) (take l.kind-index l.params)
