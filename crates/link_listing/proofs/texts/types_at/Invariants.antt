use Rattle.std.proofs.Common.{◌≡◌, take, map}
use Rattle.link_listing.specs.Texts.{type_of}
use Rattle.link_listing.proofs.texts.types_at.Given as goal

abbrev pub invariant-loop-i : goal.invariant-loop-i
invariant-loop-i l = l.names.items ≡ map (type_of l.dex) (take l.i-index l.types)
