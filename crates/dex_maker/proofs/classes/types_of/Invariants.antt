use Rattle.std.proofs.Common.{◌≡◌, map, take}
use Rattle.dex_writer.specs.Tables.{type_index}
use Rattle.dex_maker.proofs.classes.types_of.Given as goal

abbrev pub invariant-loop-name : goal.invariant-loop-name
invariant-loop-name l = l.types.items ≡ map (type_index l.tables) (take l.name-index l.names)
